use Rattle.std.proofs.Common.{◌≢◌, IsOk, refl}
use Rattle.relay_model.specs.Claims.{Unknown, after_refuse, standing}
use Rattle.std.proofs.lemmas.Result.{on_err_weaker, on_ok_weaker}
use Rattle.id_history.proofs.ShardsLemmas.{changes, keeps_claims, of_claim}
use Rattle.id_history.proofs.OwnLemmas.{OwnIds-set, others_by_change, others_kept, either_way}
use Rattle.id_history.proofs.shards.Shards.refuse.Goals as goal

-- the change is that of the id's own shard
pub returns-clause-claims : goal.returns-clause-claims
returns-clause-claims c =
    on_ok_weaker c.refuse.result
    (changes _ _ _ _ _ c.args.id.now (λ claim. after_refuse c.args.session c.args.now
    (standing c.args.lasting c.args.now claim))
    c.shard_of.ensures c.index_mut.ensures.value refl) c.refuse.ensures.claims

-- what the id's own shard keeps, they keep
pub returns-clause-err : goal.returns-clause-err
returns-clause-err c =
    on_err_weaker c.refuse.result (keeps_claims _ _ _ _ _ c.args.id.now c.shard_of.ensures
    c.index_mut.ensures.value refl) c.refuse.ensures.err

-- an id that is known is so to its own shard
pub returns-clause-known : goal.returns-clause-known
returns-clause-known c =
    of_claim _ _ _ c.args.id.now (λ claim. claim ≢ Unknown → IsOk c.refuse.result)
    c.shard_of.ensures c.index_mut.ensures.value c.refuse.ensures.known

-- of the ids of other shards there is still nothing
pub invariant_of-self-clause-own : goal.invariant_of-self-clause-own
invariant_of-self-clause-own c =
    OwnIds-set _ _ _ _ c.args.id.now c.shard_of.ensures c.index_mut.ensures.value
    c.args.self.now.own
    (either_way c.refuse.result c.refuse.ensures.claims c.refuse.ensures.err
    (λ change. others_by_change _ _ c.args.id.now
    (λ claim. after_refuse c.args.session c.args.now (standing c.args.lasting c.args.now claim))
    change)
    (λ kept. others_kept _ _ c.args.id.now kept))
