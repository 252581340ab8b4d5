-- When a block is past its limit, and how much is kept of one that isn't.
use Rattle.std.proofs.Common.{◌≡◌, ℕ, ◌+◌, ◌-◌, ◌*◌, ◌<◌, ◌≤◌}
use Rattle.std.proofs.Common.{◌==◌, true, false, List, [], ◌∷◌, ◌++◌}
use Rattle.std.proofs.Common.{length, take, drop, bytes_eq, cond, ltb, Some, None, refl, sym, ap}
use Rattle.std.proofs.Common.{subst, ◌∙◌, arith, ⊎_elim, append_assoc, length-append}
use Rattle.std.proofs.Common.{length-drop, rules}
use Rattle.std.proofs.Math.Seq.{take-add}
use Rattle.std.proofs.lemmas.Bool.{cases_Bool, cases_lt, cond-true}
use Rattle.std.proofs.lemmas.Bool.{cond-false, ltb-true, ltb-false, le-ltb}
use Rattle.std.proofs.lemmas.Bool.{false≢true}
use Rattle.std.proofs.lemmas.List.{drop-drop, length-take-le}
use Rattle.std.proofs.lemmas.Option.{same_Some}
use Rattle.std.proofs.lemmas.Slice.Eq.{bytes_eq-Decides}
use Rattle.news_terms.specs.Lines.{crlf, first_line, spelled}
use Rattle.news_terms.specs.Blocks.{dot, AreOpenLines, CutsBlock}
use Rattle.news_terms.specs.Blocks.{next_block, unstuffed}
use Rattle.news_terms.specs.Blocks.{unstuffed_line, stuffed_room, text_lines}
use Rattle.news_terms.specs.Blocks as blocks
use Rattle.news_terms.proofs.RestLemmas.{first_line-line}
use Rattle.news_terms.proofs.BlockLemmas.{CutsBlock-from_first, spelled-cons}
use Rattle.news_terms.proofs.NextLemmas.{IsNextBlock, next_block-is, next_block-oversize}
use Rattle.stream_cut.specs.Dots.{dot_of, dots_of}
use Rattle.stream_cut.specs.Look.{IsPassed, ClosesAt}
use Rattle.stream_cut.specs.Past.{AreLinesOf, StandsAs, StandsOversize}
use Rattle.stream_cut.specs.Past.{EndWithin}
use Rattle.stream_cut.specs.Stream.{IsPastLimit}
use Rattle.stream_cut.specs.declared.past.BlockStand.{BlockStand}
use Rattle.stream_cut.specs.declared.past.BlockStand.TheVariants.{Past}
use Rattle.stream_cut.specs.declared.past.Within.TheVariants as within
use Rattle.stream_cut.proofs.PlaceLemmas.{EndsAt-front, EndsAt-line}
use Rattle.stream_cut.proofs.PassLemmas.{passed-tail, passed-whole, passed-dots, passed-bounds}
use Rattle.stream_cut.proofs.PassLemmas.{length-unstuffed, dot_of-unstuffed, dot_of-bound}
use Rattle.stream_cut.proofs.PassLemmas.{length-text, first_block-closed}
use Rattle.stream_cut.proofs.PassLemmas.{ClosesAt-fits}
use Rattle.stream_cut.proofs.PastLemmas.{EndsAt-early, dots_of-append, spelled-append, two_parts}
use Rattle.stream_cut.proofs.PastLemmas.{unfinished_after, goes_into}

-- a line of a block that begins with a dot has four octets at least, with its CRLF
open_dot : (l : List ℕ) → bytes_eq l dot ≡ false → 4 * dot_of l ≤ length l + 2
open_dot [] open_line = omega arith
open_dot (a ∷ []) open_line = ⊎_elim
    (λ t. absurd (false≢true (sym open_line
    ∙ (bytes_eq-Decides (a ∷ []) dot).1 (ap (λ (x : ℕ). x ∷ []) (same_octet a t)))))
    (λ f. omega (arith, cond-false {A = ℕ} (a == 46) 1 0 f))
    (cases_Bool (a == 46))
  where
    same_octet : (a : ℕ) → (a == 46) ≡ true → a ≡ 46
    same_octet a t = search (rules, t)
open_dot (a ∷ b ∷ l) open_line = omega (arith, dot_of-bound (a ∷ b ∷ l))

-- so a fourth of the octets of such lines are dots at most
open_dots : (ls : List (List ℕ)) → AreOpenLines ls → 4 * dots_of ls ≤ length (spelled ls)
open_dots [] h = omega arith
open_dots (l ∷ ls) h = omega (
  arith,
  open_dot l h.1,
  open_dots ls h.2,
  length-append (l ++ crlf) (spelled ls),
  length-append l crlf,
)

-- the least that a line adds once so many octets came of it
abbrev pub sure_of : ℕ → ℕ
sure_of tail = cond (ltb 2 tail) tail 0

-- none where it may be the lone dot
pub sure_short : (tail : ℕ) → tail ≤ 2 → sure_of tail ≡ 0
sure_short tail short = cond-false (ltb 2 tail) tail 0 (le-ltb 2 tail short)

-- what is kept of a block that may be within the limit
pub kept_bounded : (limit : ℕ) (s : List ℕ) (passed looked dots : ℕ)
    → IsPassed s passed looked dots
    → passed - dots + sure_of (length s - passed) ≤ limit → length s ≤ stuffed_room limit
kept_bounded limit s passed looked dots h fits =
    let some : 4 * dots ≤ passed = omega (arith, open_dots h.lines h.unclosed, h.count, h.dotted) in
    let tail = length s - passed in
    ⊎_elim
    (λ t. omega (arith, some, fits, cond-true (ltb 2 tail) tail 0 t))
    (λ f. omega (arith, some, fits, cond-false (ltb 2 tail) tail 0 f, ltb-false 2 tail f))
    (cases_Bool (ltb 2 tail))

-- a block that begins with such lines has them, and what follows them is the rest of it
cuts_after : (lines : List (List ℕ)) (t : List ℕ) (ls : List (List ℕ)) (rest : List ℕ)
    → AreOpenLines lines → CutsBlock (spelled lines ++ t) ls rest
    → (ms : List (List ℕ)) × (ls ≡ lines ++ ms) × CutsBlock t ms rest
cuts_after [] t ls rest h cut = (ls, refl, cut)
cuts_after (l ∷ lines) t [] rest h cut =
    let one : first_line (spelled (l ∷ lines) ++ t) ≡ Some (l, spelled lines ++ t) =
    ap first_line (spelled-cons l lines t) ∙ first_line-line l (spelled lines ++ t) h.0 in
    let two : first_line (spelled (l ∷ lines) ++ t) ≡ Some (dot, rest) =
    ap first_line cut.whole in
    let same : (l, spelled lines ++ t) ≡ (dot, rest) = same_Some _ _ (sym one ∙ two) in
    let lone : l ≡ dot = ap (λ (p : List ℕ × List ℕ). p.0) same in
    absurd (false≢true (sym h.1 ∙ (bytes_eq-Decides l dot).1 lone))
cuts_after (l ∷ lines) t (k ∷ ls) rest h cut =
    let later = spelled ls ++ 46 ∷ 13 ∷ 10 ∷ rest in
    let one : first_line (spelled (l ∷ lines) ++ t) ≡ Some (l, spelled lines ++ t) =
    ap first_line (spelled-cons l lines t) ∙ first_line-line l (spelled lines ++ t) h.0 in
    let two : first_line (spelled (l ∷ lines) ++ t) ≡ Some (k, later) =
    ap first_line (cut.whole ∙ spelled-cons k ls (46 ∷ 13 ∷ 10 ∷ rest))
    ∙ first_line-line k later (cut.unclosed).0 in
    let same : (l, spelled lines ++ t) ≡ (k, later) = same_Some _ _ (sym one ∙ two) in
    let more = cuts_after lines t ls rest h.2 (record {
      whole = ap (λ (p : List ℕ × List ℕ). p.1) same;
      unclosed = (cut.unclosed).2;
    }) in (
      more.0,
      ap (λ (x : List ℕ). x ∷ ls) (sym (ap (λ (p : List ℕ × List ℕ). p.0) same))
          ∙ ap (λ (x : List (List ℕ)). l ∷ x) more.1,
      more.2,
    )

-- a line that began adds what is sure
least_text : (t more : List ℕ) (ls : List (List ℕ)) (rest : List ℕ) → first_line t ≡ None
    → CutsBlock (t ++ more) ls rest → 2 < length t → length t ≤ length (unstuffed ls)
least_text t more [] rest none cut long = absurd (EndsAt-line t 1 none
    (EndsAt-early t more 1 long (EndsAt-front (t ++ more) dot rest cut.whole)))
least_text t more (l ∷ ls) rest none cut long =
    let whole = cut.whole ∙ spelled-cons l ls (46 ∷ 13 ∷ 10 ∷ rest) in
    let later = spelled ls ++ 46 ∷ 13 ∷ 10 ∷ rest in
    ⊎_elim
    (λ early. absurd (EndsAt-line t (length l) none
    (EndsAt-early t more (length l) early (EndsAt-front (t ++ more) l later whole))))
    (λ late. omega (
      arith,
      late,
      long,
      dot_of-unstuffed l,
      dot_of-bound l,
      length-append (unstuffed_line l ++ crlf) (unstuffed ls),
      length-append (unstuffed_line l) crlf,
    ))
    (cases_lt (length l + 1) (length t))

-- once more than the limit is sure, the block is past it whatever comes
pub past_begins : (limit : ℕ) (s : List ℕ) (passed looked dots : ℕ)
    → IsPassed s passed looked dots → first_line (drop passed s) ≡ None
    → limit < passed - dots + sure_of (length s - passed) → IsPastLimit limit s
past_begins limit s passed looked dots h none long = λ more text rest e.
    let is = subst (IsNextBlock limit (s ++ more)) e (next_block-is limit (s ++ more)) in
    let same : drop passed s ≡ h.tail = passed-tail s passed looked dots h in
    let apart : s ++ more ≡ spelled h.lines ++ (h.tail ++ more) =
    ap (λ (x : List ℕ). x ++ more) h.whole ∙ append_assoc (spelled h.lines) h.tail more in
    let cut : CutsBlock (spelled h.lines ++ (h.tail ++ more)) is.0 rest =
    subst (λ (x : List ℕ). CutsBlock x is.0 rest) apart
    (CutsBlock-from_first (s ++ more) is.0 rest is.1) in
    let after = cuts_after h.lines (h.tail ++ more) is.0 rest h.unclosed cut in
    let ms = after.0 in
    let tail : length h.tail ≡ length s - passed =
    sym (ap length same) ∙ length-drop passed s in
    let all : length (unstuffed (h.lines ++ ms)) ≤ limit =
    subst (λ (x : List (List ℕ)). length (unstuffed x) ≤ limit) after.1 is.3 in
    let sum = length-unstuffed (h.lines ++ ms) in
    let dots_sum = dots_of-append h.lines ms in
    let octets = ap length (spelled-append h.lines ms)
    ∙ length-append (spelled h.lines) (spelled ms) in
    let rest_sum = length-unstuffed ms in
    let count = h.count in
    let dotted = h.dotted in
    let n = length s - passed in
    let bounds = passed-bounds s passed looked dots h in
    let text : passed - dots + length (unstuffed ms) ≤ limit =
    omega (arith, all, sum, dots_sum, octets, rest_sum, count, dotted, bounds.1) in
    ⊎_elim
    (λ t.
    let full : sure_of n ≡ n = cond-true (ltb 2 n) n 0 t in
    let least = least_text h.tail more ms rest (ap first_line (sym same) ∙ none) after.2
    (omega (arith, ltb-true 2 n t, tail)) in
    absurd (omega (arith, long, text, full, least, tail)))
    (λ f.
    let none_sure : sure_of n ≡ 0 = cond-false (ltb 2 n) n 0 f in
    absurd (omega (arith, long, text, none_sure)))
    (cases_Bool (ltb 2 n))

-- the part of a block past its limit that can go
abbrev pub part_of : ℕ → ℕ → BlockStand
part_of len at = cond (ltb 2 (len - at)) (Past (len - 1) within.Line) (Past at within.Block)

-- it goes
pub part_goes : (limit : ℕ) (gone kept : List ℕ) (at : ℕ) → at ≤ length kept
    → AreLinesOf (gone ++ take at kept) → first_line (drop at kept) ≡ None
    → IsPastLimit limit (gone ++ kept)
    → (length kept - at ≤ 2 → 0 < length gone + at)
    → StandsAs limit gone kept (part_of (length kept) at)
part_goes limit gone kept at fits lines none past some =
    let n = length kept - at in
    let before = gone ++ take at kept in
    let tail = drop at kept in
    let open_yet : next_block limit (gone ++ kept) ≡ blocks.Unfinished =
    ap (next_block limit) (sym (two_parts at gone kept))
    ∙ unfinished_after limit before tail lines none in
    let sum = length-append gone (take at kept) in
    let taken = length-take-le at kept fits in
    let left : length tail ≡ length kept - at = length-drop at kept in
    ⊎_elim
    (λ t.
    let long : 2 < n = ltb-true 2 n t in
    let m = n - 1 in
    let place : at + m ≡ length kept - 1 = omega (arith, long) in
    let goes = goes_into before tail m lines none (omega (arith, long, left))
    (omega (arith, long)) in
    let first : before ++ take m tail ≡ gone ++ take (length kept - 1) kept =
    append_assoc gone (take at kept) (take m tail)
    ∙ ap (λ (x : List ℕ). gone ++ x) (sym (take-add at m kept))
    ∙ ap (λ (k : ℕ). gone ++ take k kept) place in
    let last : drop m tail ≡ drop (length kept - 1) kept =
    drop-drop m at kept ∙ ap (λ (k : ℕ). drop k kept) place in
    let count = length-take-le (length kept - 1) kept (omega arith) in
    subst (StandsAs limit gone kept) (sym (cond-true (ltb 2 n) _ _ t)) (record {
      unfinished = open_yet;
      within = omega arith;
      few = omega arith;
      drops = record {
        some = omega (
          arith,
          long,
          count,
          length-append gone (take (length kept - 1) kept),
        );
        past = subst (IsPastLimit limit) (sym (two_parts (length kept - 1) gone kept)) past;
        ends = subst (λ (x : List ℕ). EndWithin within.Line (gone ++ take (length kept - 1) kept) x)
            last (subst (λ (x : List ℕ). EndWithin within.Line x (drop m tail)) first goes);
      };
    }))
    (λ f.
    let short : n ≤ 2 = ltb-false 2 n f in
    subst (StandsAs limit gone kept) (sym (cond-false (ltb 2 n) _ _ f)) (record {
      unfinished = open_yet;
      within = fits;
      few = omega (arith, short, fits);
      drops = record {
        some = omega (arith, some short, sum, taken);
        past = subst (IsPastLimit limit) (sym (two_parts at gone kept)) past;
        ends = lines;
      };
    }))
    (cases_Bool (ltb 2 n))

-- a block whose text is past the limit, nothing of which is gone
pub oversize_front : (limit : ℕ) (s : List ℕ) (passed looked dots : ℕ)
    → IsPassed s passed looked dots → ClosesAt s passed → limit < passed - dots
    → StandsOversize limit [] s (passed + 3)
oversize_front limit s passed looked dots h closes long =
    let bounds = passed-bounds s passed looked dots h in
    record {
      within = ClosesAt-fits s passed closes;
      cut = next_block-oversize limit s (text_lines (take passed s)) (drop (passed + 3) s)
          (first_block-closed s passed looked dots h closes) (omega (
            arith,
            long,
            length-text (text_lines (take passed s)) (take passed s) dots
                (passed-whole s passed looked dots h) (passed-dots s passed looked dots h),
            length-take-le passed s bounds.0,
          ));
    }
