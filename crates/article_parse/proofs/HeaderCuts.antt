-- What the first line of a header says of the lines and of the empty line behind it.
use Rattle.std.proofs.Common.{◌≡◌, ◌≢◌, ℕ, ◌+◌, ◌<◌, Bool, true, false, List, [], ◌∷◌, ◌++◌, length}
use Rattle.std.proofs.Common.{take, drop, refl, sym, ap, ◌∙◌, arith, ⊎_elim, append-nil}
use Rattle.std.proofs.Common.{take-append-drop, length-take}
use Rattle.std.specs.Prelude.{not, ◌&&◌, ◌||◌, ◌==◌, IsTrue, filter}
use Rattle.std.specs.List.{list_all, onto_first, take_while}
use Rattle.std.proofs.lemmas.Bool.{cases_Bool, ne_eqb, eqb-true, and_parts}
use Rattle.std.proofs.lemmas.Bool.{eqb-false}
use Rattle.std.proofs.lemmas.List.Sums.{take_while-cons}
use Rattle.news_terms.specs.Article.{is_of_line_end, is_paired, is_empty, occurs}
use Rattle.news_terms.specs.Lines.{crlf}
use Rattle.news_terms.specs.Article.{has_empty_line, text_lines, header_lines, are_header_lines}
use Rattle.news_terms.specs.Article.{begins_field, continues_field, is_white}
use Rattle.std.proofs.lemmas.List.{drop-drop}
use Rattle.news_terms.proofs.HeaderLines.{no_line_feed}
use Rattle.article_parse.specs.Header.{is_plain, may_follow, goes_on, IsLineCut}
use Rattle.article_parse.proofs.Pairs.{no_part}
use Rattle.line_words.proofs.Cuts.{some_part}

-- a plain text has a plain octet in front, and plain ones behind it
pub plain_parts : (c : ℕ) (s : List ℕ) → is_plain (c ∷ s) ≡ true
    → (c ≢ 13) × (c ≢ 10) × (is_plain s ≡ true)
plain_parts c s h =
    let p = and_parts _ (is_plain s) h in
    let n = no_part c (not_not (is_of_line_end c) p.0) in
    (n.0, n.1, p.1)
  where
    not_not : (b : Bool) → not b ≡ true → b ≡ false
    not_not true h = sym h
    not_not false h = refl

-- the empty line and the CRLF before it
abbrev blank : List ℕ
blank = crlf ++ crlf

-- it begins at no plain octet
blank_skips : (s more : List ℕ) → is_plain s ≡ true → occurs blank (s ++ more) ≡ occurs blank more
blank_skips [] more h = refl
blank_skips (c ∷ s) more h =
    let p = plain_parts c s h in
    let n : 13 ≢ c = λ e. p.0 (sym e) in
    rw (ne_eqb 13 c n) (blank_skips s more p.2)

-- behind a line with something in it the first empty line is that of the text behind its CRLF
pub blank_behind : (line rest : List ℕ) → 0 < length line → is_plain line ≡ true
    → has_empty_line (line ++ 13 ∷ 10 ∷ rest) ≡ has_empty_line rest
blank_behind [] rest some h = absurd (omega (arith, some))
blank_behind (c ∷ line) rest some h =
    let p = plain_parts c line h in
    let n : 13 ≢ c = λ e. p.0 (sym e) in
    rw (ne_eqb 13 c n) (blank_skips line (13 ∷ 10 ∷ rest) p.2)

-- a plain text has no empty line
pub plain_no_blank : (s : List ℕ) → is_plain s ≡ true → has_empty_line s ≡ false
plain_no_blank [] h = refl
plain_no_blank (c ∷ s) h =
    let p = plain_parts c s h in
    let n : 13 ≢ c = λ e. p.0 (sym e) in
    rw (ne_eqb 13 c n) (ap (occurs blank) (sym (append-nil s)) ∙ blank_skips s [] p.2)

-- a line, and the lines behind it
pub lines_behind : (line rest : List ℕ) → is_plain line ≡ true
    → text_lines (line ++ 13 ∷ 10 ∷ rest) ≡ line ∷ text_lines rest
lines_behind [] rest h = refl
lines_behind (c ∷ line) rest h =
    let p = plain_parts c line h in
    let no_cr : c ≢ 13 = p.0 in
    let no_lf : c ≢ 10 = p.1 in
    rw (ne_eqb c 10 no_lf, ne_eqb c 13 no_cr) (ap (onto_first c) (lines_behind line rest p.2))

-- a line with something in it, and the header lines behind it
pub header_behind : (line rest : List ℕ) → 0 < length line → is_plain line ≡ true
    → header_lines (line ++ 13 ∷ 10 ∷ rest) ≡ line ∷ header_lines rest
header_behind [] rest some h = absurd (omega (arith, some))
header_behind (c ∷ line) rest some h =
    ap (take_while (λ x. not (is_empty x))) (lines_behind (c ∷ line) rest h)
    ∙ take_while-cons (λ x. not (is_empty x)) (c ∷ line) (text_lines rest)

-- the parts of a text whose first line ends at a place
pub line_parts : (s : List ℕ) (k : ℕ) → IsLineCut s k
    → s ≡ take k s ++ 13 ∷ 10 ∷ drop (k + 2) s
line_parts s k h = sym (take-append-drop k s) ∙ ap (λ x. take k s ++ x) h.cut

-- such a line is as long as its place says
pub line_length : (s : List ℕ) (k : ℕ) → IsLineCut s k → length (take k s) ≡ k
line_length s k h = let fits = h.fits in omega (arith, length-take k s)

-- behind such a line the text has an empty line exactly where it has one
pub blank_of : (s : List ℕ) (k : ℕ) → IsLineCut s k → 0 < k
    → has_empty_line s ≡ has_empty_line (drop (k + 2) s)
blank_of s k h some =
    ap has_empty_line (line_parts s k h)
    ∙ blank_behind (take k s) (drop (k + 2) s) (omega (arith, some, line_length s k h)) h.plain

-- the header lines of a text whose first line ends at a place
header_of : (s : List ℕ) (k : ℕ) → IsLineCut s k → 0 < k
    → header_lines s ≡ take k s ∷ header_lines (drop (k + 2) s)
header_of s k h some =
    ap header_lines (line_parts s k h)
    ∙ header_behind (take k s) (drop (k + 2) s) (omega (arith, some, line_length s k h)) h.plain

-- lines behind a field go on as a header where the first may follow and the others go on
pub goes_of : (s : List ℕ) (k : ℕ) → IsLineCut s k → 0 < k
    → goes_on s ≡ (may_follow (take k s) && goes_on (drop (k + 2) s))
goes_of s k h some = ap (list_all may_follow) (header_of s k h some)

-- lines are a header where the first begins a field and the others go on
pub begins_of : (s : List ℕ) (k : ℕ) → IsLineCut s k → 0 < k
    → are_header_lines (header_lines s)
    ≡ (begins_field (take k s) && goes_on (drop (k + 2) s))
begins_of s k h some = ap are_header_lines (header_of s k h some)

-- where a text doesn't continue a field, its lines go on as a header exactly where they are one
pub goes_as_header : (s : List ℕ) → IsTrue (is_paired s) → continues_field s ≡ false
    → goes_on s ≡ are_header_lines (header_lines s)
goes_as_header [] paired ended = refl
goes_as_header (c ∷ s) paired ended = ⊎_elim
    (λ cr. at_end c s (eqb-true c 13 cr))
    (λ other. within c s (eqb-false c 13 other)
    (no_line_feed 0 c s (λ e. omega (arith, e)) paired) ended)
    (cases_Bool (c == 13))
  where
    at_end : (c : ℕ) (s : List ℕ) → c ≡ 13
        → goes_on (c ∷ s) ≡ are_header_lines (header_lines (c ∷ s))
    at_end c s e = rw e refl

    or_false : (a : Bool) → (a || false) ≡ a
    or_false true = refl
    or_false false = refl

    within : (c : ℕ) (s : List ℕ) → c ≢ 13 → c ≢ 10 → is_white c ≡ false
        → goes_on (c ∷ s) ≡ are_header_lines (header_lines (c ∷ s))
    within c s no_cr no_lf black =
        let first = some_part (λ d. d == 13) (filter (λ d. not (d == 10)) s) in
        let lines : text_lines (c ∷ s) ≡ (c ∷ first.0) ∷ first.1 =
        rw (ne_eqb c 10 no_lf, ne_eqb c 13 no_cr, first.2) refl in
        let more = take_while (λ x. not (is_empty x)) first.1 in
        let header : header_lines (c ∷ s) ≡ (c ∷ first.0) ∷ more =
        ap (take_while (λ x. not (is_empty x))) lines
        ∙ take_while-cons (λ x. not (is_empty x)) (c ∷ first.0) first.1 in
        ap (list_all may_follow) header
        ∙ ap (λ b. (begins_field (c ∷ first.0) || b) && list_all may_follow more) black
        ∙ ap (λ b. b && list_all may_follow more) (or_false (begins_field (c ∷ first.0)))
        ∙ sym (ap are_header_lines header)

-- a line that is not empty is passed
pub line_passed : (s rest : List ℕ) (at end : ℕ) → rest ≡ drop at s → IsLineCut rest end → 0 < end
    → (has_empty_line (drop at s) ≡ has_empty_line (drop (at + end + 2) s))
    × IsTrue (is_paired (drop (at + end + 2) s))
line_passed s rest at end e h some =
    let place : at + (end + 2) ≡ at + end + 2 = omega arith in
    let left : drop (end + 2) rest ≡ drop (at + end + 2) s =
    ap (drop (end + 2)) e ∙ drop-drop (end + 2) at s ∙ ap (λ n. drop n s) place in (
      ap has_empty_line (sym e) ∙ blank_of rest end h some ∙ ap has_empty_line left,
      ap is_paired (sym left) ∙ h.paired,
    )

-- a line that is empty is an empty line of the text
pub line_blank : (s rest : List ℕ) (at end : ℕ) → rest ≡ drop at s → IsLineCut rest end → end ≡ 0
    → has_empty_line (drop at s) ≡ true
line_blank s rest at end e h zero_is =
    ap has_empty_line (sym e ∙ ap (λ n. drop n rest) (sym zero_is) ∙ h.cut)
