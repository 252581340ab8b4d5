-- Entries with their number of octets and their check are read again, and are what was written.
use Rattle.std.proofs.Common.{◌≡◌, ℕ, ◌+◌, ◌^◌, ◌<◌, Bool, cond, eqb}
use Rattle.std.proofs.Common.{List, ◌++◌, length, take, Option, Some, None, ◌≢◌}
use Rattle.std.proofs.Common.{refl, sym, ap, subst, ◌∙◌, append_assoc, arith}
use Rattle.std.proofs.lemmas.Bool.{eqb-true, eq-eqb, ne_eqb}
use Rattle.std.proofs.lemmas.List.{take_at, length-append}
use Rattle.std.specs.Int.{w16, w32, to_be_bytes}
use Rattle.relay_log.specs.Check.{check}
use Rattle.relay_log.specs.Journal.{Entry, IsEntry, said_octets, counted_octets, checked_octets}
use Rattle.relay_log.specs.Journal.{entry_octets}
use Rattle.id_history.specs.Reading.{◌>>=◌, number_at, text_at}
use Rattle.relay_log.specs.Reading.{said_of, checked_at, entry_at}
use Rattle.relay_log.proofs.Entries.{said_takes, said_again, said_fits}
use Rattle.id_history.proofs.Fields.{IsBytes, IsBytes-take, bind_some, bind_is}
use Rattle.relay_log.proofs.Fields.{bind_is_none}
use Rattle.id_history.proofs.Fields.{guard_some, held_some}
use Rattle.id_history.proofs.Fields.{some_is, Takes, Takes-then, wide32, number_takes}
use Rattle.relay_log.proofs.Fields.{wide16}
use Rattle.id_history.proofs.Fields.{number_again, text_takes, text_again}
use Rattle.relay_log.proofs.Sums.{check_fits}

-- octets that are read as so many are octets
text_fits : (n : ℕ) (bytes : List ℕ) (x : List ℕ × List ℕ) → IsBytes bytes
    → text_at n bytes ≡ Some x → IsBytes x.0
text_fits n bytes x fits e =
    let g = guard_some _ _ x e in
    subst (λ (y : List ℕ × List ℕ). IsBytes y.0) g.1 (IsBytes-take n bytes fits)

-- octets behind their number, in front of more
counted_front : (said rest : List ℕ)
    → take (2 + length said) (counted_octets said ++ rest) ≡ counted_octets said
counted_front said rest = take_at (counted_octets said) rest (2 + length said) (omega arith)

-- what is read with its check was written with it
pub checked_takes : (bytes : List ℕ) (x : List ℕ × List ℕ) → IsBytes bytes
    → checked_at bytes ≡ Some x → Takes bytes (checked_octets x.0) x.1 × IsBytes x.0
unfolding checked_at
checked_takes bytes x fits e =
    let a = bind_some (number_at w16 bytes) _ x e in
    let b = bind_some (text_at a.0.0 a.0.1) _ x a.2 in
    let d = bind_some (number_at w32 b.0.1) _ x b.2 in
    let ta = number_takes w16 (2 ^ 16) wide16 bytes a.0 fits a.1 in
    let tb = text_takes a.0.0 a.0.1 b.0 ta.0.rest_fits b.1 in
    let td = number_takes w32 (2 ^ 32) wide32 b.0.1 d.0 tb.0.rest_fits d.1 in
    let made : List ℕ × List ℕ = (b.0.0, d.0.1) in
    let g = held_some (eqb d.0.0 (check (take (2 + a.0.0) bytes))) made x d.2 in
    let counted : Takes bytes (counted_octets b.0.0) b.0.1 =
    subst (λ (n : ℕ). Takes bytes (to_be_bytes w16 n ++ b.0.0) b.0.1) (sym tb.1)
    (Takes-then bytes (to_be_bytes w16 a.0.0) a.0.1 b.0.0 b.0.1 ta.0 tb.0) in
    let front : take (2 + a.0.0) bytes ≡ counted_octets b.0.0 =
    ap (λ (n : ℕ). take (2 + n) bytes) (sym tb.1)
    ∙ ap (take (2 + length b.0.0)) counted.parts ∙ counted_front b.0.0 b.0.1 in
    let sum : d.0.0 ≡ check (counted_octets b.0.0) =
    eqb-true d.0.0 (check (take (2 + a.0.0) bytes)) g.0 ∙ ap check front in
    subst (λ (y : List ℕ × List ℕ). Takes bytes (checked_octets y.0) y.1 × IsBytes y.0)
    {x = made} g.1 (
      Takes-then bytes (counted_octets b.0.0) b.0.1
          (to_be_bytes w32 (check (counted_octets b.0.0))) d.0.1 counted
          (subst (λ (s : ℕ). Takes b.0.1 (to_be_bytes w32 s) d.0.1) sum td.0),
      text_fits a.0.0 a.0.1 b.0 ta.0.rest_fits b.1,
    )

-- octets behind their number and before a check are read exactly where it is theirs
pub checked_is : (said rest : List ℕ) (sum : ℕ) → length said < 2 ^ 16 → sum < 2 ^ 32
    → checked_at ((counted_octets said ++ to_be_bytes w32 sum) ++ rest)
    ≡ cond (eqb sum (check (counted_octets said))) (Some (said, rest)) None
unfolding checked_at
checked_is said rest sum small fits =
    let n = length said in
    let third = to_be_bytes w32 sum ++ rest in
    let second = said ++ third in
    let bytes = to_be_bytes w16 n ++ second in
    let regrouped : (counted_octets said ++ to_be_bytes w32 sum) ++ rest ≡ bytes =
    append_assoc (counted_octets said) (to_be_bytes w32 sum) rest
    ∙ append_assoc (to_be_bytes w16 n) said third in
    let front : take (2 + n) bytes ≡ counted_octets said =
    ap (take (2 + n)) (sym (append_assoc (to_be_bytes w16 n) said third))
    ∙ counted_front said third in
    let Last : ℕ → List ℕ → ℕ × List ℕ → Option (List ℕ × List ℕ) =
    λ m t s. cond (eqb s.0 (check (take (2 + m) bytes))) (Some (t, s.1)) None in
    ap checked_at regrouped
    ∙ (bind_is (number_at w16 bytes)
    (λ m. text_at m.0 m.1 >>= λ t. number_at w32 t.1 >>= λ s. Last m.0 t.0 s) (n, second)
    (number_again w16 (2 ^ 16) wide16 n second small)
    ∙ bind_is (text_at n second) (λ t. number_at w32 t.1 >>= λ s. Last n t.0 s) (said, third)
    (text_again said third)
    ∙ bind_is (number_at w32 third) (Last n said) (sum, rest)
    (number_again w32 (2 ^ 32) wide32 sum rest fits)
    ∙ ap (λ (o : List ℕ). cond (eqb sum (check o)) (Some (said, rest)) None) front)

-- what was written with its check is read with it
checked_again : (said rest : List ℕ) → length said < 2 ^ 16
    → checked_at (checked_octets said ++ rest) ≡ Some (said, rest)
checked_again said rest small =
    let sum = check (counted_octets said) in
    checked_is said rest sum small (check_fits (counted_octets said))
    ∙ ap (λ (b : Bool). cond b (Some (said, rest)) None) (eq-eqb sum sum refl)

-- what was written with another check isn't
pub other_check : (said rest : List ℕ) (sum : ℕ) → length said < 2 ^ 16 → sum < 2 ^ 32
    → sum ≢ check (counted_octets said)
    → entry_at ((counted_octets said ++ to_be_bytes w32 sum) ++ rest) ≡ None
unfolding entry_at
other_check said rest sum small fits differs =
    bind_is_none (checked_at ((counted_octets said ++ to_be_bytes w32 sum) ++ rest))
    (λ x. said_of x.0 >>= λ e. Some (e, x.1))
    (checked_is said rest sum small fits
    ∙ ap (λ (b : Bool). cond b (Some (said, rest)) None)
    (ne_eqb sum (check (counted_octets said)) differs))

-- an entry that is read is written so
pub entry_takes : (bytes : List ℕ) (x : Entry × List ℕ) → IsBytes bytes
    → entry_at bytes ≡ Some x → Takes bytes (entry_octets x.0) x.1 × IsEntry x.0
unfolding entry_at
entry_takes bytes x fits e =
    let a = bind_some (checked_at bytes) _ x e in
    let b = bind_some (said_of a.0.0) _ x a.2 in
    let ta = checked_takes bytes a.0 fits a.1 in
    let tb = said_takes a.0.0 b.0 ta.1 b.1 in
    let made : Entry × List ℕ = (b.0, a.0.1) in
    subst (λ (y : Entry × List ℕ). Takes bytes (entry_octets y.0) y.1 × IsEntry y.0)
    {x = made} (some_is made x b.2)
    (subst (λ (s : List ℕ). Takes bytes (checked_octets s) a.0.1) tb.0 ta.0, tb.1)

-- an entry that was written is read again
pub entry_again : (entry : Entry) (rest : List ℕ) → IsEntry entry
    → entry_at (entry_octets entry ++ rest) ≡ Some (entry, rest)
unfolding entry_at
entry_again entry rest is =
    let said = said_octets entry in
    bind_is (checked_at (entry_octets entry ++ rest))
    (λ x. said_of x.0 >>= λ e. Some (e, x.1)) (said, rest)
    (checked_again said rest (said_fits entry is))
    ∙ bind_is (said_of said) (λ e. Some (e, rest)) entry (said_again entry is)

-- what is behind an entry is shorter
pub entry_shorter : (bytes : List ℕ) (x : Entry × List ℕ) → IsBytes bytes
    → entry_at bytes ≡ Some x → length x.1 < length bytes
entry_shorter bytes x fits e =
    let takes = entry_takes bytes x fits e in
    omega (
      arith,
      ap (λ (o : List ℕ). length o) takes.0.parts,
      length-append (entry_octets x.0) x.1,
    )
