use Rattle.std.proofs.Common.{refl}
use Rattle.id_history.specs.Views.{id_view}
use Rattle.id_history.specs.Lasting.{claim_of_kept}
use Rattle.id_history.proofs.OwnLemmas.{OwnIds-set, others_by_change, others_kept, either_way}
use Rattle.std.proofs.lemmas.Result.{on_ok_weaker}
use Rattle.id_history.proofs.ShardsLemmas.{changes}
use Rattle.id_history.proofs.shards.Shards.put.Goals as goal

-- the change is that of the id's own shard
pub returns : goal.returns
returns c =
    on_ok_weaker c.put.result (changes _ _ _ _ _ c.args.one.id
    (λ claim. claim_of_kept (id_view c.args.one)) c.shard_of-shard.ensures
    c.index_mut.ensures.value refl) c.put.ensures.claims

-- of the ids of other shards there is still nothing
pub invariant_of-self-clause-own : goal.invariant_of-self-clause-own
invariant_of-self-clause-own c =
    OwnIds-set _ _ _ _ c.args.one.id c.shard_of-shard.ensures c.index_mut.ensures.value
    c.args.self.now.own
    (either_way c.put.result c.put.ensures.claims c.put.ensures.err
    (λ change. others_by_change _ _ c.args.one.id
    (λ claim. claim_of_kept (id_view c.args.one)) change)
    (λ kept. others_kept _ _ c.args.one.id kept))
