-- What is known of a text in which no fault of a message-id was found.
use Rattle.std.proofs.Common.{◌≡◌, ℕ, Bool, true, false, List, [], ◌∷◌, get_or, length, take, ◌-◌}
use Rattle.std.proofs.Common.{None, Result, Ok, Err, refl, sym, ap, ◌∙◌, arith, eqb}
use Rattle.std.specs.Prelude.{not, ◌==◌, ◌&&◌, ◌||◌, MatchResult, IsOk}
use Rattle.std.specs.List.{list_any, list_all}
use Rattle.std.specs.Str.{IsAscii}
use Rattle.std.proofs.lemmas.Str.Ascii.{IsAscii-from_all}
use Rattle.news_terms.specs.MessageId.{id_fault, has_brackets, IsMessageId}
use Rattle.news_terms.proofs.IdFaults.{id_fault-none}

-- A text without a fault has the parts of a message-id.
pub parts_from_no_fault : (text : List ℕ) → id_fault text ≡ None → IsMessageId text
parts_from_no_fault text e = (id_fault-none text).0 e

-- A text without a fault is ASCII.
pub ascii_from_no_fault : (text : List ℕ) → id_fault text ≡ None → IsAscii text
ascii_from_no_fault text e =
    let m = parts_from_no_fault text e in
    IsAscii-from_all text (λ k d lt. omega (arith, m.graphic k d lt))

-- Neither of two tests passes where both fail.
not-or : (a b : Bool) → not (a || b) ≡ (not a && not b)
not-or true b = refl
not-or false b = refl

-- No element passes the test exactly where each fails it.
pub not-list_any : (p : ℕ → Bool) (xs : List ℕ) → not (list_any p xs) ≡ list_all (λ c. not (p c)) xs
not-list_any p [] = refl
not-list_any p (x ∷ xs) =
    not-or (p x) (list_any p xs) ∙ ap (λ b. not (p x) && b) (not-list_any p xs)

-- A result is Ok where its Err would say that a fact fails which holds.
pub ok_from_fact : {X E : Type 0} (U : Type 0) (P : X → Type 0) (Q : E → Type 0) (r : Result X E)
    → MatchResult r P (λ e. (¬ U) × Q e) → U → IsOk r
ok_from_fact U P Q (Ok x) cases fact = refl
ok_from_fact U P Q (Err e) cases fact = absurd (cases.0 fact)

-- The brackets are right where the first two tests pass, as the third says.
pub brackets_are : (text : List ℕ) (r : Bool) → eqb (get_or text 0 0) 60 ≡ true
    → eqb (get_or text (length text - 1) 0) 62 ≡ true
    → r ≡ list_any (λ c. c == 62) (take (length text - 1) text) → not r ≡ has_brackets text
brackets_are text r first last found =
    ap not found ∙ not-list_any (λ c. c == 62) (take (length text - 1) text)
    ∙ sym (rw (first, last) refl)
