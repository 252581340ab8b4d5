use Rattle.std.proofs.Common.{map, refl, subst, sym, ◌<◌}
use Rattle.id_history.specs.Expiry.{passed_view}
use Rattle.id_history.proofs.ExpiryLemmas.{KeepsAll-expired, unknown-expired}
use Rattle.id_history.proofs.OwnLemmas.{OwnIds-left}
use Rattle.id_history.proofs.shards.Shards.expire.Goals as goal

-- the ids of the shard are gone through
pub returns : goal.returns
returns c =
    KeepsAll-expired _ _ _ _ c.args.shard c.args.now c.args.remember
    (map passed_view c.args.fronts.now)
    (subst (λ n. c.args.shard < n) (sym c.args.self.now.sixteen) c.requires)
    c.index_mut.ensures.value refl c.expire.ensures

-- of the ids of other shards there is still nothing
pub invariant_of-self-clause-own : goal.invariant_of-self-clause-own
invariant_of-self-clause-own c =
    OwnIds-left _ _ _ _ c.index_mut.ensures.value c.args.self.now.own
    (unknown-expired _ _ c.args.now c.args.remember (map passed_view c.args.fronts.now)
    c.expire.ensures)
