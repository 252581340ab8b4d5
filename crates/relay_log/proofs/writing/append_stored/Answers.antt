use Rattle.std.proofs.Common.{◌∙◌, sym, ap, ◌+◌, ◌++◌, ◌∷◌, length, List, ℕ, arith}
use Rattle.std.proofs.lemmas.Result.{on_ok_weaker}
use Rattle.std.specs.Int.{to_be_bytes, w64}
use Rattle.cyc_token.specs.Token.{token_view}
use Rattle.relay_log.specs.Journal.{Stored, entry_octets, said_octets}
use Rattle.relay_log.proofs.Appends.{entry_put, dated_counted}
use Rattle.relay_log.proofs.writing.append_stored.Goals as goal

-- an article that was stored
pub returns-clause-octets : goal.returns-clause-octets
returns-clause-octets c =
    let was = c.args.out.now.items in
    let id = c.as_bytes-id.result.now in
    let moment = c.args.moment in
    let token = token_view c.args.token.now in
    let octets = c.octets.result in
    let said = said_octets (Stored id moment token) in
    let counted = dated_counted (23 + length id) 2 moment c.dated.result said (octets ++ id)
    (ap (λ (o : List ℕ). 2 ∷ (to_be_bytes w64 moment ++ (o ++ id)))
    (sym c.octets.ensures.octets))
    (omega arith) c.dated.ensures in
    on_ok_weaker c.put.result
    (λ put. entry_put was c.put.new.out.items c.dated.result octets id (Stored id moment token)
    counted put
    ∙ ap (λ (i : List ℕ). was ++ entry_octets (Stored i moment token)) c.as_bytes-id.ensures.value)
    c.put.ensures.octets
