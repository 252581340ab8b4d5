use Rattle.std.proofs.Common.{◌∙◌, ap, ◌+◌, ◌++◌, [], length, List, ℕ, arith, refl}
use Rattle.std.proofs.lemmas.Result.{on_ok_weaker}
use Rattle.relay_log.specs.Journal.{Refused, entry_octets, said_octets}
use Rattle.relay_log.proofs.Appends.{entry_put, dated_counted}
use Rattle.relay_log.proofs.writing.append_refused.Goals as goal

-- an article that was refused
pub returns-clause-octets : goal.returns-clause-octets
returns-clause-octets c =
    let was = c.args.out.now.items in
    let id = c.as_bytes-id.result.now in
    let moment = c.args.moment in
    let said = said_octets (Refused id moment) in
    let counted = dated_counted (9 + length id) 1 moment c.dated.result said id refl
    (omega arith) c.dated.ensures in
    on_ok_weaker c.put.result
    (λ put. entry_put was c.put.new.out.items c.dated.result [] id (Refused id moment) counted put
    ∙ ap (λ (i : List ℕ). was ++ entry_octets (Refused i moment)) c.as_bytes-id.ensures.value)
    c.put.ensures.octets
