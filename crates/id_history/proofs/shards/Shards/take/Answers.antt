use Rattle.std.proofs.Common.{◌≡◌, ◌≢◌, IsOk, refl}
use Rattle.relay_model.specs.Claims.{Unknown, take_answer, after_take}
use Rattle.id_history.specs.Answers.{take_view}
use Rattle.std.proofs.lemmas.Result.{on_err_weaker, on_ok_weaker}
use Rattle.id_history.proofs.ShardsLemmas.{changes, if_ok_of_claim, keeps_claims}
use Rattle.id_history.proofs.ShardsLemmas.{of_claim}
use Rattle.id_history.specs.Mark.{no_article}
use Rattle.id_history.proofs.OwnLemmas.{OwnIds-set, others_by_change, others_kept, either_way}
use Rattle.id_history.proofs.shards.Shards.take.Goals as goal

-- the answer is that of the id's own shard
pub returns-clause-answer : goal.returns-clause-answer
returns-clause-answer c =
    if_ok_of_claim c.take.result _ _ _ c.args.id.now
    (λ answer claim. take_view answer ≡ take_answer c.args.session claim)
    c.shard_of.ensures c.index_mut.ensures.value c.take.ensures.answer

-- the change is that of the id's own shard
pub returns-clause-claims : goal.returns-clause-claims
returns-clause-claims c =
    on_ok_weaker c.take.result (λ change article. changes _ _ _ _ _ c.args.id.now
    (after_take c.args.session article) c.shard_of.ensures c.index_mut.ensures.value refl
    (change article)) c.take.ensures.claims

-- what the id's own shard keeps, they keep
pub returns-clause-err : goal.returns-clause-err
returns-clause-err c =
    on_err_weaker c.take.result (keeps_claims _ _ _ _ _ c.args.id.now c.shard_of.ensures
    c.index_mut.ensures.value refl) c.take.ensures.err

-- an id that is known is so to its own shard
pub returns-clause-known : goal.returns-clause-known
returns-clause-known c =
    of_claim _ _ _ c.args.id.now (λ claim. claim ≢ Unknown → IsOk c.take.result)
    c.shard_of.ensures c.index_mut.ensures.value c.take.ensures.known

-- of the ids of other shards there is still nothing
pub invariant_of-self-clause-own : goal.invariant_of-self-clause-own
invariant_of-self-clause-own c =
    OwnIds-set _ _ _ _ c.args.id.now c.shard_of.ensures c.index_mut.ensures.value
    c.args.self.now.own
    (either_way c.take.result c.take.ensures.claims c.take.ensures.err
    (λ change. others_by_change _ _ c.args.id.now (after_take c.args.session no_article)
    (change no_article))
    (λ kept. others_kept _ _ c.args.id.now kept))
