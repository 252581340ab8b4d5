use Rattle.std.proofs.Common.{◌≡◌, ◌≢◌, IsOk, refl}
use Rattle.relay_model.specs.Claims.{Unknown, offer_answer, after_offer, standing}
use Rattle.id_history.specs.Answers.{offer_view}
use Rattle.std.proofs.lemmas.Result.{on_err_weaker, on_ok_weaker}
use Rattle.id_history.proofs.ShardsLemmas.{changes, if_ok_of_claim, keeps_claims}
use Rattle.id_history.proofs.ShardsLemmas.{of_claim}
use Rattle.id_history.proofs.OwnLemmas.{OwnIds-set, others_by_change, others_kept, either_way}
use Rattle.id_history.proofs.shards.Shards.offer.Goals as goal

-- the answer is that of the id's own shard
pub returns-clause-answer : goal.returns-clause-answer
returns-clause-answer c =
    if_ok_of_claim c.offer.result _ _ _ c.args.id.now
    (λ answer claim. offer_view answer
    ≡ offer_answer c.args.session (standing c.args.lasting c.args.now claim))
    c.shard_of.ensures c.index_mut.ensures.value c.offer.ensures.answer

-- the change is that of the id's own shard
pub returns-clause-claims : goal.returns-clause-claims
returns-clause-claims c =
    on_ok_weaker c.offer.result (changes _ _ _ _ _ c.args.id.now
    (λ claim. after_offer c.args.session c.args.now (standing c.args.lasting c.args.now claim))
    c.shard_of.ensures c.index_mut.ensures.value refl) c.offer.ensures.claims

-- what the id's own shard keeps, they keep
pub returns-clause-err : goal.returns-clause-err
returns-clause-err c =
    on_err_weaker c.offer.result (keeps_claims _ _ _ _ _ c.args.id.now c.shard_of.ensures
    c.index_mut.ensures.value refl) c.offer.ensures.err

-- an id that is known is so to its own shard
pub returns-clause-known : goal.returns-clause-known
returns-clause-known c =
    of_claim _ _ _ c.args.id.now (λ claim. claim ≢ Unknown → IsOk c.offer.result)
    c.shard_of.ensures c.index_mut.ensures.value c.offer.ensures.known

-- of the ids of other shards there is still nothing
pub invariant_of-self-clause-own : goal.invariant_of-self-clause-own
invariant_of-self-clause-own c =
    OwnIds-set _ _ _ _ c.args.id.now c.shard_of.ensures c.index_mut.ensures.value
    c.args.self.now.own
    (either_way c.offer.result c.offer.ensures.claims c.offer.ensures.err
    (λ change. others_by_change _ _ c.args.id.now
    (λ claim. after_offer c.args.session c.args.now (standing c.args.lasting c.args.now claim))
    change)
    (λ kept. others_kept _ _ c.args.id.now kept))
