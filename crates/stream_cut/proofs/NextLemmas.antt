-- What the next line says, by the place of each CRLF.
use Rattle.std.proofs.Common.{◌≡◌, ℕ, ◌+◌, ◌<◌, ◌≤◌, leb, List, ◌∷◌, length, Option, Some, None}
use Rattle.std.proofs.Common.{refl, sym, ap, subst, ◌∙◌, arith, ⊎_elim, length-append}
use Rattle.std.proofs.lemmas.Bool.{cases_Bool, le-leb, leb-true, leb-false, lt-leb, cond-true}
use Rattle.std.proofs.lemmas.Bool.{cond-false}
use Rattle.news_terms.specs.Lines.{first_line, next_line, next_line_by, NextLine, Cut, TooLong}
use Rattle.news_terms.specs.Lines.{Incomplete}
use Rattle.news_terms.proofs.LineLemmas.{first_line_whole}
use Rattle.stream_cut.specs.Look.{EndsAt}
use Rattle.stream_cut.proofs.PlaceLemmas.{EndsAt-front, EndsAt-line, EndsAt-least}

-- which case the next line is
abbrev pub IsNextLine : List ℕ → NextLine → Type 0
IsNextLine s (Cut line rest) = (first_line s ≡ Some (line, rest)) × (length line + 2 ≤ 512)
IsNextLine s TooLong = (512 ≤ length s) × ((k : ℕ) → EndsAt s k → 512 < k + 2)
IsNextLine s Incomplete = (length s < 512) × (first_line s ≡ None)

-- the next line is in the case that it says
pub next_line-is : (s : List ℕ) → IsNextLine s (next_line s)
next_line-is s = at (first_line s) refl
  where
    at : (o : Option (List ℕ × List ℕ)) → first_line s ≡ o
        → IsNextLine s (next_line_by o (length s))
    at None e = ⊎_elim
        (λ t. subst (IsNextLine s) (sym (cond-true _ TooLong Incomplete t))
        (leb-true 512 (length s) t, λ k h. absurd (EndsAt-line s k e h)))
        (λ f. subst (IsNextLine s) (sym (cond-false _ TooLong Incomplete f))
        (leb-false 512 (length s) f, e))
        (cases_Bool (leb 512 (length s)))
    at (Some p) e =
        let whole = first_line_whole s p e in
        let count : length s ≡ length p.0 + length (13 ∷ 10 ∷ p.1) =
        ap length whole ∙ length-append p.0 (13 ∷ 10 ∷ p.1) in
        ⊎_elim
        (λ t. subst (IsNextLine s) (sym (cond-true _ (Cut p.0 p.1) TooLong t))
        (e, leb-true (length p.0 + 2) 512 t))
        (λ f.
        let long : 512 < length p.0 + 2 = leb-false (length p.0 + 2) 512 f in
        subst (IsNextLine s) (sym (cond-false _ (Cut p.0 p.1) TooLong f))
        (omega arith, λ k h. omega (arith, EndsAt-least s p.0 p.1 k e h)))
        (cases_Bool (leb (length p.0 + 2) 512))

-- a stream is in one case
pub next_line-from : (s : List ℕ) (n : NextLine) → IsNextLine s n → next_line s ≡ n
next_line-from s (Cut line rest) h =
    ap (λ (o : Option (List ℕ × List ℕ)). next_line_by o (length s)) h.0
    ∙ cond-true _ _ _ (le-leb _ _ h.1)
next_line-from s TooLong h = at (first_line s) refl
  where
    at : (o : Option (List ℕ × List ℕ)) → first_line s ≡ o → next_line_by o (length s) ≡ TooLong
    at None e = cond-true _ _ _ (le-leb _ _ h.0)
    at (Some p) e = cond-false _ _ _
        (lt-leb (length p.0 + 2) 512
        (h.1 (length p.0) (EndsAt-front s p.0 p.1 (first_line_whole s p e))))
next_line-from s Incomplete h = ap (λ (o : Option (List ℕ × List ℕ)). next_line_by o (length s)) h.1
    ∙ cond-false _ _ _ (lt-leb _ _ h.0)
