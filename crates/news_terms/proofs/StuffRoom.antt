-- How long the block that sends a text is.
use Rattle.std.proofs.Common.{◌≡◌, ℕ, zero, suc, ◌+◌, ◌*◌, ◌≤◌, ◌==◌, List, [], ◌∷◌, ◌++◌}
use Rattle.std.proofs.Common.{length, map, Option, Some, None, refl, ap, arith, ⊎_elim}
use Rattle.std.proofs.Common.{length-append}
use Rattle.std.proofs.lemmas.Bool.{cases_Bool, cond-true, cond-false}
use Rattle.news_terms.specs.Lines.{crlf, first_line, spelled}
use Rattle.news_terms.specs.Blocks.{dot, stuffed_line, text_lines, stuffed, stuffed_room}
use Rattle.news_terms.proofs.LineLemmas.{first_line_whole}
use Rattle.news_terms.proofs.StuffLemmas.{text_lines-line, text_lines-last}

-- a line that isn't empty gains an octet at most
stuffed_line-length : (a : ℕ) (l : List ℕ) → length (stuffed_line (a ∷ l)) ≤ length l + 2
stuffed_line-length a l = ⊎_elim
    (λ t. omega (arith, ap length (cond-true (a == 46) (46 ∷ a ∷ l) (a ∷ l) t)))
    (λ f. omega (arith, ap length (cond-false (a == 46) (46 ∷ a ∷ l) (a ∷ l) f)))
    (cases_Bool (a == 46))

-- with its CRLF a line becomes at most a third longer
stuffed_line-third : (l : List ℕ) → 3 * (length (stuffed_line l) + 2) ≤ 4 * (length l + 2)
stuffed_line-third [] = omega arith
stuffed_line-third (a ∷ l) = omega (arith, stuffed_line-length a l)

-- a line and its CRLF before others
spelled-length : (l : List ℕ) (ls : List (List ℕ))
    → length (spelled (l ∷ ls)) ≡ length l + 2 + length (spelled ls)
spelled-length l ls =
    omega (arith, length-append (l ++ crlf) (spelled ls), length-append l crlf)

-- the lines of a text of at most n octets, stuffed
lines_bounded : (n : ℕ) (t : List ℕ) → length t ≤ n
    → 3 * length (spelled (map stuffed_line (text_lines t))) ≤ 4 * length t + 8
lines_bounded n [] fits = omega arith
lines_bounded zero (a ∷ t) fits = absurd (omega arith)
lines_bounded (suc n) (a ∷ t) fits = by (lines_bounded n) (first_line (a ∷ t)) refl
  where
    by : ((r : List ℕ) → length r ≤ n
        → 3 * length (spelled (map stuffed_line (text_lines r))) ≤ 4 * length r + 8)
        → (o : Option (List ℕ × List ℕ)) → first_line (a ∷ t) ≡ o
        → 3 * length (spelled (map stuffed_line (text_lines (a ∷ t)))) ≤ 4 * length (a ∷ t) + 8
    by more None e =
        let lines = ap (λ ls. length (spelled (map stuffed_line ls)))
        (text_lines-last (a ∷ t) e (omega arith)) in
        omega (
          arith,
          lines,
          spelled-length (stuffed_line (a ∷ t)) [],
          stuffed_line-third (a ∷ t),
        )
    by more (Some p) e =
        let lines = ap (λ ls. length (spelled (map stuffed_line ls)))
        (text_lines-line (a ∷ t) p.0 p.1 e) in
        let whole = ap length (first_line_whole (a ∷ t) p e) in
        let parts = length-append p.0 (13 ∷ 10 ∷ p.1) in
        let less : length p.1 ≤ n = omega (arith, whole, parts, fits) in
        omega (
          arith,
          lines,
          whole,
          parts,
          more p.1 less,
          stuffed_line-third p.0,
          spelled-length (stuffed_line p.0) (map stuffed_line (text_lines p.1)),
        )

-- the block that sends a text
pub stuffed-bounded : (text : List ℕ) → length (stuffed text) ≤ stuffed_room (length text)
stuffed-bounded text =
    let lines = spelled (map stuffed_line (text_lines text)) in
    let closed = length-append lines dot in
    let whole : length (stuffed text) ≡ length (lines ++ dot) + length crlf =
    length-append (lines ++ dot) crlf in
    omega (arith, lines_bounded (length text) text (omega arith), closed, whole)
