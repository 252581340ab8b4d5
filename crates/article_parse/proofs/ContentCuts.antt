-- How a content goes on over the lines that continue it.
use Rattle.std.proofs.Common.{◌≡◌, ◌≢◌, ℕ, zero, suc, ◌+◌, ◌<◌, ◌≤◌, true, false, List}
use Rattle.std.proofs.Common.{[], ◌∷◌, ◌++◌, length, take, drop, refl, sym, ap, ◌∙◌, arith}
use Rattle.std.proofs.Common.{take-append-drop, length-drop, ⊎_elim}
use Rattle.std.specs.Prelude.{not, ◌&&◌, ◌||◌, ◌==◌}
use Rattle.std.proofs.lemmas.Bool.{ne_eqb, and_parts, and_from, or_left, or_right, cases_lt}
use Rattle.std.proofs.lemmas.Bool.{both_ways}
use Rattle.std.proofs.lemmas.List.{drop-drop, drop-take, take-take}
use Rattle.news_terms.specs.Article.{is_paired, is_folded, has_empty_line, continues_field}
use Rattle.news_terms.specs.Article.{is_white}
use Rattle.news_terms.specs.Article.{begins_field, is_set_off}
use Rattle.article_parse.specs.Header.{is_plain, goes_on, IsLineCut, IsContent}
use Rattle.article_parse.proofs.HeaderCuts.{plain_parts, plain_no_blank, blank_of, goes_of}

-- plain octets are folded rightly
pub plain_folded : (s : List ℕ) → is_plain s ≡ true → is_folded s ≡ true
plain_folded [] h = refl
plain_folded (c ∷ []) h =
    let no_lf : c ≢ 10 = (plain_parts c [] h).1 in rw (ne_eqb c 10 no_lf) refl
plain_folded (c ∷ d ∷ s) h =
    let p = plain_parts c (d ∷ s) h in
    let no_lf : c ≢ 10 = p.1 in
    rw (ne_eqb c 10 no_lf) (plain_folded (d ∷ s) p.2)

-- a line that continues a field, behind a CRLF
folded_line : (line : List ℕ) → continues_field line ≡ true → is_plain line ≡ true
    → is_folded (13 ∷ 10 ∷ line) ≡ true
folded_line [] h p = absurd (both_ways _ refl h)
folded_line (c ∷ line) h p = and_from _ _ h (plain_folded (c ∷ line) p)

-- behind a folded content such a line goes on
pub folded_more : (s line : List ℕ) → is_folded s ≡ true → continues_field line ≡ true
    → is_plain line ≡ true → is_folded (s ++ 13 ∷ 10 ∷ line) ≡ true
folded_more [] line f h p = folded_line line h p
folded_more (c ∷ []) line f h p =
    and_from (not (c == 10) || is_white 13) (is_folded (13 ∷ 10 ∷ line))
    (or_left (not (c == 10)) (is_white 13) f) (folded_line line h p)
folded_more (c ∷ d ∷ s) line f h p =
    let parts = and_parts (not (c == 10) || is_white d) (is_folded (d ∷ s)) f in
    and_from (not (c == 10) || is_white d) (is_folded (d ∷ (s ++ 13 ∷ 10 ∷ line))) parts.0
    (folded_more (d ∷ s) line parts.1 h p)

-- a line with an SP or TAB at its front has something in it
pub continued_some : (s : List ℕ) (k : ℕ) → IsLineCut s k → continues_field s ≡ true → 0 < k
continued_some s k h cont = ⊎_elim (λ lt. lt)
    (λ none. absurd (both_ways _ (starts s (zero_cut s k h (omega (arith, none)))) cont))
    (cases_lt 0 k)
  where
    zero_cut : (s : List ℕ) (k : ℕ) → IsLineCut s k → k ≡ 0 → s ≡ 13 ∷ 10 ∷ drop (k + 2) s
    zero_cut s k h e = sym (ap (λ n. drop n s) e) ∙ h.cut

    starts : (s : List ℕ) {t : List ℕ} → s ≡ 13 ∷ t → continues_field s ≡ false
    starts s e = ap continues_field e

-- and so its front is that of the text
pub continued_front : (s : List ℕ) (k : ℕ) → 0 < k → continues_field s ≡ true
    → continues_field (take k s) ≡ true
continued_front s zero some h = absurd (omega (arith, some))
continued_front [] (suc k) some h = absurd (both_ways _ refl h)
continued_front (c ∷ s) (suc k) some h = h

-- what stands before the end of a line that continues a content
pub take_on : (s : List ℕ) (end k : ℕ) → end ≤ length s → drop end s ≡ 13 ∷ 10 ∷ drop (end + 2) s
    → take (end + 2 + k) s ≡ take end s ++ 13 ∷ 10 ∷ take k (drop (end + 2) s)
take_on s end k within cut =
    let e : end + (2 + k) ≡ end + 2 + k = omega arith in
    let two : 2 + k ≡ suc (suc k) = omega arith in
    let m = end + 2 + k in
    let front : take end (take m s) ≡ take end s = take-take end m s (omega arith) in
    let behind : drop end (take m s) ≡ 13 ∷ 10 ∷ take k (drop (end + 2) s) =
    ap (λ n. drop end (take n s)) (sym e) ∙ drop-take end (2 + k) s
    ∙ ap (take (2 + k)) cut ∙ ap (λ n. take n (13 ∷ 10 ∷ drop (end + 2) s)) two in
    sym (take-append-drop end (take m s)) ∙ ap (λ x. x ++ drop end (take m s)) front
    ∙ ap (λ x. take end s ++ x) behind

-- a content may end at the end of its first line
pub content_starts : (s : List ℕ) (first : ℕ) → IsLineCut s first → IsContent s first first
content_starts s first h = record {
  fits = h.fits;
  behind = omega arith;
  cut = h.cut;
  folded = plain_folded (take first s) h.plain;
  paired = h.paired;
  empty = refl;
  good = refl;
}

-- the end of a line that continues it is where it may end next
pub content_goes : (s : List ℕ) (first end k : ℕ) → IsContent s first end
    → continues_field (drop (end + 2) s) ≡ true → IsLineCut (drop (end + 2) s) k
    → IsContent s first (end + 2 + k)
content_goes s first end k h cont line =
    let rest = drop (end + 2) s in
    let some = continued_some rest k line cont in
    let fits = h.fits in
    let fits' = line.fits in
    let behind = h.behind in
    let place : end + 2 + (k + 2) ≡ end + 2 + k + 2 = omega arith in
    let left : drop (k + 2) rest ≡ drop (end + 2 + k + 2) s =
    drop-drop (k + 2) (end + 2) s ∙ ap (λ n. drop n s) place in
    let front = continued_front rest k some cont in
    record {
      fits = omega (arith, fits, fits', length-drop (end + 2) s);
      behind = omega arith;
      cut = sym (drop-drop k (end + 2) s) ∙ line.cut ∙ ap (λ x. 13 ∷ 10 ∷ x) left;
      folded = ap is_folded (take_on s end k (omega arith) h.cut)
          ∙ folded_more (take end s) (take k rest) h.folded front line.plain;
      paired = ap is_paired (sym left) ∙ line.paired;
      empty = h.empty ∙ blank_of rest k line some ∙ ap has_empty_line left;
      good = h.good ∙ goes_of rest k line some
          ∙ ap (λ b. b && goes_on (drop (k + 2) rest))
          (or_right (begins_field (take k rest)) _ front)
          ∙ ap goes_on left;
    }

-- where no line ends any more, there is no empty line
pub content_lost : (s rest : List ℕ) (first end : ℕ) → IsContent s first end
    → rest ≡ drop (end + 2) s → is_plain rest ≡ true
    → has_empty_line (drop (first + 2) s) ≡ false
content_lost s rest first end h e plain =
    h.empty ∙ ap has_empty_line (sym e) ∙ plain_no_blank rest plain

-- what is set off by its first line is set off
pub set_off_more : (s : List ℕ) (first end : ℕ) → IsLineCut s first → first ≤ end
    → is_set_off (take first s) ≡ true → is_set_off (take end s) ≡ true
set_off_more s first zero h le off = refl
set_off_more [] first (suc end) h le off = refl
set_off_more (c ∷ s) zero (suc end) h le off = ap (λ x. is_set_off (x ∷ take end s)) (cr c s h)
  where
    cr : (c : ℕ) (s : List ℕ) → IsLineCut (c ∷ s) 0 → c ≡ 13
    cr c s h = let cut : c ∷ s ≡ 13 ∷ 10 ∷ drop (0 + 2) (c ∷ s) = h.cut in cc
set_off_more (c ∷ s) (suc first) (suc end) h le off = off
