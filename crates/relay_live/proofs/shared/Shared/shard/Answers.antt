use Rattle.std.proofs.Common.{◌∙◌, length, sym}
use Rattle.relay_live.specs.Locked.{number_of}
use Rattle.relay_model.specs.Run.{shard_of}
use Rattle.relay_model.specs.Terms.{shard_count}
use Rattle.relay_live.proofs.Orders.{number_in_row}
use Rattle.relay_live.proofs.Rest.{shard_within}
use Rattle.relay_live.proofs.Rooms.{below_as, same_below}
use Rattle.relay_live.proofs.shared.Shared.shard.Goals as goal

-- the lock there has the number of the place
pub returns : goal.returns
returns g c =
    let self = c.args.self.now in
    let shards = self.shards.items in
    let place = c.shard_of.result in
    let own = shard_of c.args.id.now in
    number_in_row number_of shards place c.index.result.now self.shards_order
    (same_below place own (length shards) c.shard_of.ensures
    (below_as own shard_count (length shards) (shard_within c.args.id.now) (sym self.sixteen)))
    c.index.ensures
    ∙ c.shard_of.ensures
