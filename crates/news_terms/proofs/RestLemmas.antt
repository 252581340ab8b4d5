-- What follows a line doesn't change it.
use Rattle.std.proofs.Common.{◌≡◌, ℕ, ◌==◌, ◌&&◌, List, [], ◌∷◌, ◌++◌, length, drop, Option, Some}
use Rattle.std.proofs.Common.{refl, sym, ap, ◌∙◌, arith, ⊎_elim, append_assoc, length-append}
use Rattle.std.proofs.lemmas.List.{nil_from_length}
use Rattle.std.proofs.lemmas.Bool.{cases_Bool}
use Rattle.std.proofs.lemmas.Option.{same_Some}
use Rattle.std.specs.Option.{option_map}
use Rattle.news_terms.specs.Lines.{crlf, first_line, IsLine}
use Rattle.news_terms.proofs.LineLemmas.{with_octet, map_some, first_line_ends, first_line_goes}
use Rattle.news_terms.proofs.LineLemmas.{first_line_found, first_line_whole, same_front}
use Rattle.news_terms.proofs.LineLemmas.{CutsLine-from_first}

-- a line that a CRLF ends is the first line, whatever follows the CRLF
pub line_again : (l r after : List ℕ) → first_line (l ++ 13 ∷ 10 ∷ r) ≡ Some (l, r)
    → first_line (l ++ 13 ∷ 10 ∷ after) ≡ Some (l, after)
line_again [] r after e = refl
line_again (a ∷ []) r after e = ⊎_elim
    (λ t.
    let same : ([], 10 ∷ r) ≡ (a ∷ [], r) =
    same_Some _ _ (sym (first_line_ends a 13 (10 ∷ r) t) ∙ e) in
    let none : [] ≡ a ∷ [] = ap (λ (p : List ℕ × List ℕ). p.0) same in
    absurd cc)
    (λ f. first_line_goes a 13 (10 ∷ after) f)
    (cases_Bool (a == 13 && 13 == 10))
line_again (a ∷ b ∷ l) r after e = ⊎_elim
    (λ t.
    let same : ([], l ++ 13 ∷ 10 ∷ r) ≡ (a ∷ b ∷ l, r) =
    same_Some _ _ (sym (first_line_ends a b _ t) ∙ e) in
    let none : [] ≡ a ∷ b ∷ l = ap (λ (p : List ℕ × List ℕ). p.0) same in
    absurd cc)
    (λ f.
    let rest = map_some (with_octet a) _ (a ∷ b ∷ l, r) (sym (first_line_goes a b _ f) ∙ e) in
    let same : rest.0 ≡ (b ∷ l, r) = ap (λ (p : List ℕ × List ℕ). (drop 1 p.0, p.1)) rest.2 in
    first_line_goes a b _ f
    ∙ ap (option_map (with_octet a)) (line_again (b ∷ l) r after (rest.1 ∙ ap Some same)))
    (cases_Bool (a == 13 && b == 10))

-- the first line of a stream is a line
pub IsLine-from_first : (s l r : List ℕ) → first_line s ≡ Some (l, r) → IsLine l
IsLine-from_first s l r e =
    line_again l r [] (ap first_line (sym (first_line_whole s (l, r) e)) ∙ e)

-- a line is the first, whatever follows it
pub first_line-line : (l after : List ℕ) → IsLine l
    → first_line (l ++ 13 ∷ 10 ∷ after) ≡ Some (l, after)
first_line-line l after h = line_again l [] after h

-- more octets leave the first line as it is
pub first_line-append : (s l r more : List ℕ) → first_line s ≡ Some (l, r)
    → first_line (s ++ more) ≡ Some (l, r ++ more)
first_line-append s l r more e =
    let whole : s ++ more ≡ l ++ 13 ∷ 10 ∷ (r ++ more) =
    ap (λ (x : List ℕ). x ++ more) (first_line_whole s (l, r) e)
    ∙ append_assoc l (13 ∷ 10 ∷ r) more in
    ap first_line whole ∙ first_line-line l (r ++ more) (IsLine-from_first s l r e)

-- no CRLF stands in a line and its CRLF before its end
pub line_ends_last : (l front after : List ℕ) → IsLine l → l ++ crlf ≡ front ++ 13 ∷ 10 ∷ after
    → after ≡ []
line_ends_last l front after h whole =
    let cut = CutsLine-from_first (l ++ crlf) l [] h in
    let least = cut.shortest front after whole in
    nil_from_length after
    (omega (
      arith,
      least,
      length-append l crlf,
      length-append front (13 ∷ 10 ∷ after),
      ap length whole,
    ))

-- what has no CRLF before its end is a line
pub IsLine-from_last : (l : List ℕ)
    → ((front after : List ℕ) → l ++ crlf ≡ front ++ 13 ∷ 10 ∷ after → after ≡ []) → IsLine l
IsLine-from_last l h =
    let found = first_line_found l [] in
    let p = found.0 in
    let whole = first_line_whole (l ++ crlf) p found.1 in
    let last = h p.0 p.1 whole in
    let shown : l ++ crlf ≡ p.0 ++ crlf = whole ∙ ap (λ (x : List ℕ). p.0 ++ 13 ∷ 10 ∷ x) last in
    let same = same_front l p.0 crlf crlf shown
    (omega (arith, length-append l crlf, length-append p.0 crlf, ap length shown)) in
    let L : List ℕ → Option (List ℕ × List ℕ) = λ x. Some (x, p.1) in
    let R : List ℕ → Option (List ℕ × List ℕ) = λ x. Some (l, x) in
    found.1 ∙ ap L (sym same.0) ∙ ap R last
