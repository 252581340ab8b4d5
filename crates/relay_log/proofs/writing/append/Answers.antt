use Rattle.std.proofs.Common.{◌≡◌, ◌∙◌, sym, ap, ◌++◌, ◌∷◌, [], refl}
use Rattle.std.proofs.lemmas.Result.{on_ok_weaker}
use Rattle.std.specs.Int.{to_be_bytes, w64}
use Rattle.relay_log.specs.Journal.{Entry, Taken, entry_octets}
use Rattle.relay_log.specs.Views.{entry_view}
use Rattle.relay_log.proofs.Appends.{entry_put, taken_counted}
use Rattle.relay_log.proofs.writing.append.Goals as goal

-- an article that was refused
pub returns-in-Refused-clause-octets : goal.returns-in-Refused-clause-octets
returns-in-Refused-clause-octets c =
    let was = c.args.out.now.items in
    on_ok_weaker c.append_refused.result
    (λ put. put ∙ ap (λ (e : Entry). was ++ entry_octets e) (sym (ap entry_view c.in-Refused.is)))
    c.append_refused.ensures.octets

-- an article that was stored
pub returns-in-Stored-clause-octets : goal.returns-in-Stored-clause-octets
returns-in-Stored-clause-octets c =
    let was = c.args.out.now.items in
    on_ok_weaker c.append_stored.result
    (λ put. put ∙ ap (λ (e : Entry). was ++ entry_octets e) (sym (ap entry_view c.in-Stored.is)))
    c.append_stored.ensures.octets

-- a take
pub returns-in-Taken-clause-octets : goal.returns-in-Taken-clause-octets
returns-in-Taken-clause-octets c =
    let was = c.args.out.now.items in
    let feed = c.in-Taken.feed in
    let gained = c.in-Taken.gained in
    let passed = c.in-Taken.passed in
    let taken = c.in-Taken.taken in
    let counts : c.as_flattened.result.now
    ≡ to_be_bytes w64 gained ++ (to_be_bytes w64 passed ++ to_be_bytes w64 taken) =
    rw (
      c.as_flattened.ensures.value,
      c.to_be_bytes.ensures,
      c.to_be_bytes-in-Taken.ensures,
      c.to_be_bytes-in-Taken-2.ensures,
    ) refl in
    let counted = taken_counted feed gained passed taken c.to_be_bytes-in-Taken-3.result
    c.as_flattened.result.now c.to_be_bytes-in-Taken-3.ensures counts in
    on_ok_weaker c.put.result
    (λ put. entry_put was c.put.new.out.items (0 ∷ 27 ∷ 3 ∷ [])
    c.to_be_bytes-in-Taken-3.result
    c.as_flattened.result.now (Taken feed gained passed taken) counted put
    ∙ ap (λ (e : Entry). was ++ entry_octets e) (sym (ap entry_view c.in-Taken.is)))
    c.put.ensures.octets
