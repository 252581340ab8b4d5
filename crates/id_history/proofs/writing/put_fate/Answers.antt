use Rattle.std.proofs.Common.{[], ◌∷◌, ◌++◌}
use Rattle.std.specs.Int.{to_be_bytes, w64}
use Rattle.cyc_token.specs.Token.{token_view}
use Rattle.news_terms.specs.Token.{token_octets}
use Rattle.std.proofs.lemmas.Result.{on_ok_weaker}
use Rattle.id_history.proofs.Appends.{behind}
use Rattle.id_history.proofs.writing.put_fate.Goals as goal

-- 1, and the moment
pub returns-in_ok-push-in-None-clause-octets : goal.returns-in_ok-push-in-None-clause-octets
returns-in_ok-push-in-None-clause-octets c =
    rw c.in-None.is (on_ok_weaker c.put64.result
    (λ last. behind c.args.out.now.items (1 ∷ []) (to_be_bytes w64 c.args.moment)
    c.in_ok-push-in-None.ensures.items last)
    c.put64.ensures)

-- 2, the moment and the token
pub returns-in_ok-put64-in-Some-clause-octets : goal.returns-in_ok-put64-in-Some-clause-octets
returns-in_ok-put64-in-Some-clause-octets c =
    let moment = to_be_bytes w64 c.args.moment in
    let token = token_octets (token_view c.in-Some.token) in
    rw c.in-Some.is (on_ok_weaker c.put.result
    (λ last. behind c.args.out.now.items (2 ∷ []) (moment ++ token)
    c.in_ok-push-in-Some.ensures.items
    (behind c.push-in-Some.new.self.items moment token c.in_ok-put64-in-Some.ensures last))
    c.put.ensures.octets)
