use Rattle.std.proofs.Common.{refl}
use Rattle.relay_model.specs.Claims.{after_release}
use Rattle.id_history.proofs.ShardsLemmas.{changes}
use Rattle.id_history.proofs.OwnLemmas.{OwnIds-set, others_by_change}
use Rattle.id_history.proofs.shards.Shards.release.Goals as goal

-- the change is that of the id's own shard
pub returns : goal.returns
returns c =
    changes _ _ _ _ _ c.args.id.now (after_release c.args.session) c.shard_of.ensures
    c.index_mut.ensures.value refl c.release.ensures

-- of the ids of other shards there is still nothing
pub invariant_of-self-clause-own : goal.invariant_of-self-clause-own
invariant_of-self-clause-own c =
    OwnIds-set _ _ _ _ c.args.id.now c.shard_of.ensures c.index_mut.ensures.value
    c.args.self.now.own
    (others_by_change _ _ c.args.id.now (after_release c.args.session) c.release.ensures)
