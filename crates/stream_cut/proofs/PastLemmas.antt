-- A block whose front is gone.
use Rattle.std.proofs.Common.{◌≡◌, ℕ, ◌+◌, ◌-◌, ◌<◌, ◌≤◌, false, List, [], ◌∷◌, ◌++◌}
use Rattle.std.proofs.Common.{length, take, drop, bytes_eq}
use Rattle.std.proofs.Common.{Some, None, refl, sym, ap, subst}
use Rattle.std.proofs.Common.{◌∙◌, arith, ⊎_elim, append_assoc, append-nil, length-append}
use Rattle.std.proofs.Common.{length-drop, take-append-drop, get_or}
use Rattle.std.proofs.Math.Seq.{drop-append-add, take-append-add, take-add}
use Rattle.std.proofs.lemmas.List.{length-take-le, get_or_append_left, get_or-append-add}
use Rattle.std.proofs.lemmas.List.{drop-drop}
use Rattle.std.proofs.lemmas.Grind.{flat_map-append}
use Rattle.std.proofs.lemmas.Bool.{cases_Bool, cases_lt}
use Rattle.std.proofs.lemmas.Slice.Eq.{bytes_eq-Decides}
use Rattle.news_terms.specs.Lines.{crlf, first_line, spelled}
use Rattle.news_terms.specs.Blocks.{dot, AreOpenLines}
use Rattle.news_terms.specs.Blocks.{first_block, next_block, unstuffed}
use Rattle.news_terms.specs.Blocks as blocks
use Rattle.news_terms.proofs.LineLemmas.{first_line_whole}
use Rattle.news_terms.proofs.NextLemmas.{next_block-whole}
use Rattle.news_terms.proofs.NextLemmas.{next_block-oversize}
use Rattle.stream_cut.specs.Dots.{dots_of}
use Rattle.stream_cut.specs.Look.{EndsAt, IsLooked, LineEnds, IsPassed, ClosesAt}
use Rattle.stream_cut.specs.Past.{AreLinesOf, GoIntoLine}
use Rattle.stream_cut.specs.Past.{StandsOversize}
use Rattle.stream_cut.specs.Stream.{IsPastLimit}
use Rattle.stream_cut.proofs.PlaceLemmas.{EndsAt-front, EndsAt-line, EndsAt-least}
use Rattle.stream_cut.proofs.PlaceLemmas.{line_at, line_nowhere, looked_all}
use Rattle.stream_cut.proofs.PassLemmas.{IsLooked-none, passed-lines, pass_line}
use Rattle.stream_cut.proofs.PassLemmas.{next_block-open, first_block-closed}
use Rattle.stream_cut.proofs.PassLemmas.{ClosesAt-fits, passed-bounds}

-- lines of a block, and more of it
AreOpenLines-append : (ls ms : List (List ℕ)) → AreOpenLines ls → AreOpenLines ms
    → AreOpenLines (ls ++ ms)
AreOpenLines-append [] ms h g = g
AreOpenLines-append (l ∷ ls) ms h g = (h.0, h.1, AreOpenLines-append ls ms h.2 g)

pub dots_of-append : (ls ms : List (List ℕ)) → dots_of (ls ++ ms) ≡ dots_of ls + dots_of ms
dots_of-append [] ms = omega arith
dots_of-append (l ∷ ls) ms = omega (arith, dots_of-append ls ms)

pub spelled-append : (ls ms : List (List ℕ)) → spelled (ls ++ ms) ≡ spelled ls ++ spelled ms
spelled-append ls ms = flat_map-append (λ (line : List ℕ). line ++ crlf) ls ms

-- whole lines, and what was passed after them
pub passed_on : (gone kept : List ℕ) (passed looked dots : ℕ) (g : AreLinesOf gone)
    → IsPassed kept passed looked dots
    → IsPassed (gone ++ kept) (length gone + passed) looked (dots_of g.lines + dots)
passed_on gone kept passed looked dots g h = record {
  lines = g.lines ++ h.lines;
  unclosed = AreOpenLines-append g.lines h.lines g.unclosed h.unclosed;
  tail = h.tail;
  whole = ap (λ (x : List ℕ). x ++ kept) g.whole
      ∙ ap (λ (x : List ℕ). spelled g.lines ++ x) h.whole
      ∙ sym (append_assoc (spelled g.lines) (spelled h.lines) h.tail)
      ∙ ap (λ (x : List ℕ). x ++ h.tail) (sym (spelled-append g.lines h.lines));
  count = omega (
    arith,
    ap length (spelled-append g.lines h.lines),
    length-append (spelled g.lines) (spelled h.lines),
    ap length g.whole,
    h.count,
  );
  dotted = dots_of-append g.lines h.lines ∙ ap (λ (n : ℕ). dots_of g.lines + n) h.dotted;
  seen = h.seen;
}

-- what was passed are whole lines
pub lines_passed : (s : List ℕ) (passed looked dots : ℕ) → IsPassed s passed looked dots
    → AreLinesOf (take passed s)
lines_passed s passed looked dots h = record {
  lines = h.lines;
  unclosed = h.unclosed;
  whole = passed-lines s passed looked dots h;
}

-- with those before them too
pub lines_on : (gone kept : List ℕ) (passed looked dots : ℕ) → AreLinesOf gone
    → IsPassed kept passed looked dots → AreLinesOf (gone ++ take passed kept)
lines_on gone kept passed looked dots g h = subst AreLinesOf (take-append-add gone kept passed)
    (lines_passed (gone ++ kept) (length gone + passed) looked (dots_of g.lines + dots)
    (passed_on gone kept passed looked dots g h))

-- whole lines alone were passed
passed_lines : (before rest : List ℕ) (g : AreLinesOf before)
    → IsPassed (before ++ rest) (length before) 0 (dots_of g.lines)
passed_lines before rest g = record {
  lines = g.lines;
  unclosed = g.unclosed;
  tail = rest;
  whole = ap (λ (x : List ℕ). x ++ rest) g.whole;
  count = ap length (sym g.whole);
  dotted = refl;
  seen = IsLooked-none rest;
}

-- no line follows whole lines
pub unfinished_after : (limit : ℕ) (before rest : List ℕ) → AreLinesOf before
    → first_line rest ≡ None
    → next_block limit (before ++ rest) ≡ blocks.Unfinished
unfinished_after limit before rest g none =
    next_block-open limit (before ++ rest) (length before) 0 (dots_of g.lines)
    (passed_lines before rest g)
    (ap (λ (n : ℕ). first_line (drop n (before ++ rest))) (omega arith)
    ∙ ap first_line (drop-append-add before rest 0) ∙ none)

-- octets in two parts
pub two_parts : (n : ℕ) (gone kept : List ℕ) → (gone ++ take n kept) ++ drop n kept ≡ gone ++ kept
two_parts n gone kept = append_assoc gone (take n kept) (drop n kept)
    ∙ ap (λ (x : List ℕ). gone ++ x) (take-append-drop n kept)

-- a block past the limit that is closed is oversize
pub closed_past : (limit : ℕ) (octets : List ℕ) (ls : List (List ℕ)) (rest : List ℕ)
    → IsPastLimit limit octets → first_block octets ≡ Some (ls, rest)
    → next_block limit octets ≡ blocks.Oversize rest
closed_past limit octets ls rest past found = ⊎_elim
    (λ long. next_block-oversize limit octets ls rest found long)
    (λ short. absurd (past [] (unstuffed ls) rest
    (ap (next_block limit) (append-nil octets)
    ∙ next_block-whole limit octets ls rest found (omega arith))))
    (cases_lt limit (length (unstuffed ls)))

-- the lone dot behind lines of a block past the limit
pub oversize_after : (limit : ℕ) (gone kept : List ℕ) (passed looked dots : ℕ) → AreLinesOf gone
    → IsPastLimit limit (gone ++ kept) → IsPassed kept passed looked dots → ClosesAt kept passed
    → StandsOversize limit gone kept (passed + 3)
oversize_after limit gone kept passed looked dots g past h closes =
    let at : drop (length gone + passed) (gone ++ kept) ≡ drop passed kept =
    drop-append-add gone kept passed in
    let place : length gone + passed + 3 ≡ length gone + (passed + 3) = omega arith in
    let after : drop (length gone + passed + 3) (gone ++ kept) ≡ drop (passed + 3) kept =
    ap (λ (n : ℕ). drop n (gone ++ kept)) place ∙ drop-append-add gone kept (passed + 3) in
    let all = passed_on gone kept passed looked dots g h in
    let there : ClosesAt (gone ++ kept) (length gone + passed) =
    ap first_line at ∙ closes ∙ ap (λ (x : List ℕ). Some (dot, x)) (sym after) in
    record {
      within = ClosesAt-fits kept passed closes;
      cut = closed_past limit (gone ++ kept) _ _ past
          (first_block-closed (gone ++ kept) (length gone + passed) looked
          (dots_of g.lines + dots) all there)
          ∙ ap blocks.Oversize after;
    }

-- more octets leave a block past the limit past it
pub past_more : (limit : ℕ) (octets more : List ℕ) → IsPastLimit limit octets
    → IsPastLimit limit (octets ++ more)
past_more limit octets more past = λ later text rest e. past (more ++ later) text rest
    (ap (next_block limit) (sym (append_assoc octets more later)) ∙ e)

-- a place in the second part
EndsAt-later : (front kept : List ℕ) (k : ℕ) → length front ≤ k → EndsAt (front ++ kept) k
    → EndsAt kept (k - length front)
EndsAt-later front kept k late h =
    let place : length front + (k - length front) ≡ k = omega arith in
    let next : length front + (k - length front + 1) ≡ k + 1 = omega arith in (
      sym (get_or-append-add front kept (k - length front) 0)
          ∙ ap (λ (n : ℕ). get_or (front ++ kept) n 0) place ∙ h.0,
      sym (get_or-append-add front kept (k - length front + 1) 0)
          ∙ ap (λ (n : ℕ). get_or (front ++ kept) n 0) next ∙ h.1,
    )

EndsAt-add : (front kept : List ℕ) (k : ℕ) → EndsAt kept k
    → EndsAt (front ++ kept) (length front + k)
EndsAt-add front kept k h =
    let next : length front + k + 1 ≡ length front + (k + 1) = omega arith in (
      get_or-append-add front kept k 0 ∙ h.0,
      ap (λ (n : ℕ). get_or (front ++ kept) n 0) next ∙ get_or-append-add front kept (k + 1) 0
          ∙ h.1,
    )

-- a place in the first part
pub EndsAt-early : (s more : List ℕ) (k : ℕ) → k + 1 < length s → EndsAt (s ++ more) k → EndsAt s k
EndsAt-early s more k within h = (
  sym (get_or_append_left s more 0 k (omega arith)) ∙ h.0,
  sym (get_or_append_left s more 0 (k + 1) within) ∙ h.1,
)

-- what was looked at stays so
pub IsLooked-append : (s more : List ℕ) (looked : ℕ) → IsLooked s looked
    → IsLooked (s ++ more) looked
IsLooked-append s more looked h = record {
  within = omega (arith, h.within, length-append s more);
  none = λ k below ends. h.none k below
      (EndsAt-early s more k (omega (arith, h.within, below)) ends);
}

-- the line that was gone into ends
line_over : (front kept : List ℕ) (end : ℕ) → IsLooked (front ++ kept) (length front)
    → LineEnds kept end → LineEnds (front ++ kept) (length front + end)
line_over front kept end seen ends =
    let whole = first_line_whole kept (take end kept, drop (end + 2) kept) ends.first in
    let fits = ends.fits in
    let count : length (take end kept) ≡ end = length-take-le end kept (omega arith) in
    let here : EndsAt kept end = subst (EndsAt kept) count
    (EndsAt-front kept (take end kept) (drop (end + 2) kept) whole) in
    line_at (front ++ kept) (length front + end) (EndsAt-add front kept end here)
    (λ j below h. ⊎_elim
    (λ early. seen.none j early h)
    (λ late. absurd (omega (
      arith,
      count,
      EndsAt-least kept (take end kept) (drop (end + 2) kept) (j - length front) ends.first
          (EndsAt-later front kept j late h),
    )))
    (cases_lt j (length front)))

-- it belongs to the block
pub line_joins : (gone kept : List ℕ) (end : ℕ) → GoIntoLine gone kept → LineEnds kept end
    → AreLinesOf (gone ++ take (end + 2) kept)
line_joins gone kept end h ends =
    let b = h.before in
    let f = h.front in
    let s = b ++ (f ++ kept) in
    let n = length f + end in
    let long = h.long in
    let over : LineEnds (f ++ kept) n = line_over f kept end h.goes_on ends in
    let left : drop (length b) s ≡ f ++ kept =
    ap (λ (k : ℕ). drop k s) (omega arith) ∙ drop-append-add b (f ++ kept) 0 in
    let there : LineEnds (drop (length b) s) n =
    subst (λ (x : List ℕ). LineEnds x n) (sym left) over in
    let open_line : bytes_eq (take n (drop (length b) s)) dot ≡ false = ⊎_elim
    (λ t. absurd (omega (
      arith,
      ap length ((bytes_eq-Decides (take n (drop (length b) s)) dot).0 t),
      length-take-le n (drop (length b) s) (omega (arith, there.fits)),
    )))
    (λ f. f)
    (cases_Bool (bytes_eq (take n (drop (length b) s)) dot)) in
    let all = pass_line s (length b) 0 (dots_of (h.lines).lines) n
    (passed_lines b (f ++ kept) h.lines) there open_line in
    let place : length b + n + 2 ≡ length b + (length f + (end + 2)) = omega arith in
    let taken : take (length b + n + 2) s ≡ gone ++ take (end + 2) kept =
    ap (λ (k : ℕ). take k s) place ∙ take-append-add b (f ++ kept) (length f + (end + 2))
    ∙ ap (λ (x : List ℕ). b ++ x) (take-append-add f kept (end + 2))
    ∙ sym (append_assoc b f (take (end + 2) kept))
    ∙ ap (λ (x : List ℕ). x ++ take (end + 2) kept) (sym h.whole) in
    subst AreLinesOf taken (lines_passed s (length b + n + 2) 0 _ all)

-- or goes on
line_still : (front kept : List ℕ) → IsLooked (front ++ kept) (length front)
    → first_line kept ≡ None → first_line (front ++ kept) ≡ None
line_still front kept seen none = line_nowhere (front ++ kept) (λ k h. ⊎_elim
    (λ early. seen.none k early h)
    (λ late. EndsAt-line kept (k - length front) none (EndsAt-later front kept k late h))
    (cases_lt k (length front)))

-- all but the last octet goes of a line that goes on
pub goes_into : (before tail : List ℕ) (n : ℕ) → AreLinesOf before → first_line tail ≡ None
    → n + 1 ≡ length tail → 2 ≤ n → GoIntoLine (before ++ take n tail) (drop n tail)
goes_into before tail n g none count long =
    let fits : length (take n tail) ≡ n = length-take-le n tail (omega arith) in
    record {
      before = before;
      lines = g;
      front = take n tail;
      whole = refl;
      long = omega (arith, fits, long);
      goes_on = subst (λ (x : List ℕ). IsLooked x (length (take n tail)))
          (sym (take-append-drop n tail))
          (looked_all tail (length (take n tail)) none (omega arith));
    }

-- so where the line was gone into before
pub goes_further : (limit : ℕ) (gone kept : List ℕ) → GoIntoLine gone kept
    → first_line kept ≡ None
    → (0 < length kept) × (next_block limit (gone ++ kept) ≡ blocks.Unfinished)
    × ((n : ℕ) → n + 1 ≡ length kept → GoIntoLine (gone ++ take n kept) (drop n kept))
goes_further limit gone kept h none =
    let b = h.before in
    let f = h.front in
    let long = h.long in
    let none_yet = line_still f kept h.goes_on none in
    let apart : gone ++ kept ≡ b ++ (f ++ kept) =
    ap (λ (x : List ℕ). x ++ kept) h.whole ∙ append_assoc b f kept in
    let some : 0 < length kept = omega (arith, (h.goes_on).within, long, length-append f kept) in (
      some,
      ap (next_block limit) apart ∙ unfinished_after limit b (f ++ kept) h.lines none_yet,
      λ n count.
          let fits : length (take n kept) ≡ n = length-take-le n kept (omega arith) in
          let sum = length-append f (take n kept) in
          let whole = length-append f kept in
          let joined : (f ++ take n kept) ++ drop n kept ≡ f ++ kept = two_parts n f kept in
          record {
            before = b;
            lines = h.lines;
            front = f ++ take n kept;
            whole = ap (λ (x : List ℕ). x ++ take n kept) h.whole
                ∙ append_assoc b f (take n kept);
            long = omega arith;
            goes_on = subst (λ (x : List ℕ). IsLooked x (length (f ++ take n kept))) (sym joined)
                (looked_all (f ++ kept) (length (f ++ take n kept)) none_yet (omega arith));
          },
    )

-- the lone dot behind more lines
pub oversize_later : (limit : ℕ) (gone kept : List ℕ) (at passed looked dots : ℕ)
    → at ≤ length kept
    → AreLinesOf (gone ++ take at kept) → IsPastLimit limit (gone ++ kept)
    → IsPassed (drop at kept) passed looked dots → ClosesAt (drop at kept) passed
    → StandsOversize limit gone kept (at + passed + 3)
oversize_later limit gone kept at passed looked dots fits g past h closes =
    let both = two_parts at gone kept in
    let there = oversize_after limit (gone ++ take at kept) (drop at kept) passed looked dots g
    (subst (IsPastLimit limit) (sym both) past) h closes in
    let place : at + (passed + 3) ≡ at + passed + 3 = omega arith in
    record {
      within = omega (arith, there.within, length-drop at kept, fits);
      cut = ap (next_block limit) (sym both) ∙ there.cut
          ∙ ap blocks.Oversize (drop-drop (passed + 3) at kept
          ∙ ap (λ (n : ℕ). drop n kept) place);
    }

-- more lines
pub lines_later : (gone kept : List ℕ) (at passed looked dots : ℕ)
    → AreLinesOf (gone ++ take at kept) → IsPassed (drop at kept) passed looked dots
    → AreLinesOf (gone ++ take (at + passed) kept)
lines_later gone kept at passed looked dots g h =
    subst AreLinesOf
    (append_assoc gone (take at kept) (take passed (drop at kept))
    ∙ ap (λ (x : List ℕ). gone ++ x) (sym (take-add at passed kept)))
    (lines_on (gone ++ take at kept) (drop at kept) passed looked dots g h)

-- they are among the octets
pub later_bound : (kept : List ℕ) (at passed looked dots : ℕ) → at ≤ length kept
    → IsPassed (drop at kept) passed looked dots
    → at + passed ≤ length kept
later_bound kept at passed looked dots fits h = omega (
  arith,
  fits,
  (passed-bounds (drop at kept) passed looked dots h).0,
  length-drop at kept,
)
