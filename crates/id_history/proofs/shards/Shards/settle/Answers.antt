use Rattle.std.proofs.Common.{◌≡◌, is_some, refl}
use Rattle.cyc_token.specs.Token.{token_view}
use Rattle.relay_model.specs.Claims.{is_storing_for, after_settle}
use Rattle.id_history.proofs.ShardsLemmas.{changes, of_claim}
use Rattle.id_history.proofs.OwnLemmas.{OwnIds-set, others_by_change}
use Rattle.id_history.proofs.shards.Shards.settle.Goals as goal

-- the answer is that of the id's own shard
pub returns-clause-answer : goal.returns-clause-answer
returns-clause-answer c =
    of_claim _ _ _ c.args.id.now
    (λ claim. is_some c.settle.result ≡ is_storing_for c.args.session claim)
    c.shard_of.ensures c.index_mut.ensures.value c.settle.ensures.answer

-- the change is that of the id's own shard
pub returns-clause-claims : goal.returns-clause-claims
returns-clause-claims c =
    changes _ _ _ _ _ c.args.id.now (after_settle c.args.session (token_view c.args.token)
    c.args.now) c.shard_of.ensures c.index_mut.ensures.value refl c.settle.ensures.claims

-- of the ids of other shards there is still nothing
pub invariant_of-self-clause-own : goal.invariant_of-self-clause-own
invariant_of-self-clause-own c =
    OwnIds-set _ _ _ _ c.args.id.now c.shard_of.ensures c.index_mut.ensures.value
    c.args.self.now.own
    (others_by_change _ _ c.args.id.now
    (after_settle c.args.session (token_view c.args.token) c.args.now) c.settle.ensures.claims)
