use Rattle.std.proofs.Common.{◌≡◌, option_map}
use Rattle.cyc_token.specs.Token.{token_view}
use Rattle.relay_model.specs.Claims.{look_answer}
use Rattle.id_history.proofs.ShardsLemmas.{of_claim}
use Rattle.id_history.proofs.shards.Shards.look.Goals as goal

-- the answer is that of the id's own shard
pub returns : goal.returns
returns c =
    of_claim _ _ _ c.args.id.now
    (λ claim. option_map token_view c.look.result ≡ look_answer claim)
    c.shard_of.ensures c.index.ensures c.look.ensures
