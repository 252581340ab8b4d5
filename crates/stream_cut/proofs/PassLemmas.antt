-- Whole lines of a block that were passed, and what follows them.
use Rattle.std.proofs.Common.{◌≡◌, ℕ, ◌+◌, ◌-◌, ◌≤◌, ◌==◌, true, false, List, [], ◌∷◌, ◌++◌, length}
use Rattle.std.proofs.Common.{take, drop, bytes_eq, Some, None, refl, sym, ap, ◌∙◌, arith, ⊎_elim}
use Rattle.std.proofs.Common.{append_assoc, append-nil, length-append, length-drop}
use Rattle.std.proofs.lemmas.List.{take_at, drop_at, drop-drop}
use Rattle.std.proofs.lemmas.Grind.{flat_map-append}
use Rattle.std.proofs.lemmas.Option.{same_Some}
use Rattle.std.proofs.Common.{length-take-le, subst}
use Rattle.std.proofs.Common.{zero, suc, Bool, Option, true≢false, ◌≢◌}
use Rattle.std.proofs.Math.Dec.{eqb}
use Rattle.std.proofs.lemmas.Bool.{cases_Bool, cases_lt, cond-true, cond-false, eqb-true}
use Rattle.std.proofs.lemmas.Bool.{false_from_ne_true}
use Rattle.std.proofs.lemmas.Bool.Decides.{Decides-eqb}
use Rattle.std.specs.List.{starts_with}
use Rattle.std.specs.Prelude.{MatchBool}
use Rattle.std.proofs.lemmas.Slice.Eq.{bytes_eq-Decides, starts_is}
use Rattle.news_terms.specs.Lines.{crlf, first_line, AreLines, spelled}
use Rattle.news_terms.specs.Blocks.{dot, AreOpenLines, first_block, next_block, next_block_by}
use Rattle.news_terms.specs.Blocks.{unstuffed_line, unstuffed, text_lines, Unfinished}
use Rattle.news_terms.proofs.LineLemmas.{CutsLine-from_first, first_line_whole, no_first_line}
use Rattle.news_terms.proofs.LineLemmas.{same_front}
use Rattle.news_terms.proofs.RestLemmas.{IsLine-from_first}
use Rattle.news_terms.proofs.BlockLemmas.{first_block-cuts, first_block-none}
use Rattle.news_terms.proofs.StuffLemmas.{text_lines-spelled}
use Rattle.stream_cut.specs.Look.{IsLooked, IsPassed, LineEnds, IsUnclosed, ClosesAt}
use Rattle.stream_cut.specs.Dots.{dot_of, dots_of}
use Rattle.stream_cut.proofs.PlaceLemmas.{looked_all}
use Rattle.stream_cut.proofs.TextLemmas.{between, dot_later}

-- at the front nothing was looked at
pub IsLooked-none : (s : List ℕ) → IsLooked s 0
IsLooked-none s = record { within = omega arith; none = λ k below. absurd (omega arith) }

-- nothing was passed
pub IsPassed-none : (s : List ℕ) (looked : ℕ) → IsLooked s looked → IsPassed s 0 looked 0
IsPassed-none s looked h = record {
  lines = [];
  unclosed = tt;
  tail = s;
  whole = refl;
  count = refl;
  dotted = refl;
  seen = h;
}

-- what follows the lines
pub passed-tail : (s : List ℕ) (passed looked dots : ℕ) (h : IsPassed s passed looked dots)
    → drop passed s ≡ h.tail
passed-tail s passed looked dots h = ap (drop passed) h.whole
    ∙ drop_at (spelled h.lines) h.tail passed h.count

-- the lines
pub passed-lines : (s : List ℕ) (passed looked dots : ℕ) (h : IsPassed s passed looked dots)
    → take passed s ≡ spelled h.lines
passed-lines s passed looked dots h = ap (take passed) h.whole
    ∙ take_at (spelled h.lines) h.tail passed h.count

-- a dot of a line is one of its octets
pub dot_of-unstuffed : (l : List ℕ) → length (unstuffed_line l) + dot_of l ≡ length l
dot_of-unstuffed [] = refl
dot_of-unstuffed (a ∷ l) = ⊎_elim
    (λ t. omega (arith, ap length (cond-true _ l (a ∷ l) t), cond-true {A = ℕ} (a == 46) 1 0 t))
    (λ f. omega (arith, ap length (cond-false _ l (a ∷ l) f), cond-false {A = ℕ} (a == 46) 1 0 f))
    (cases_Bool (a == 46))

-- a line begins with one dot at most
pub dot_of-bound : (l : List ℕ) → dot_of l ≤ 1
dot_of-bound [] = omega arith
dot_of-bound (a ∷ l) = ⊎_elim
    (λ t. omega (arith, cond-true {A = ℕ} (a == 46) 1 0 t))
    (λ f. omega (arith, cond-false {A = ℕ} (a == 46) 1 0 f))
    (cases_Bool (a == 46))

-- unstuffing takes one octet from each line that begins with a dot
pub length-unstuffed : (ls : List (List ℕ))
    → length (unstuffed ls) + dots_of ls ≡ length (spelled ls)
length-unstuffed [] = refl
length-unstuffed (l ∷ ls) =
    omega (
      arith,
      length-unstuffed ls,
      dot_of-unstuffed l,
      length-append (unstuffed_line l ++ crlf) (unstuffed ls),
      length-append (unstuffed_line l) crlf,
      length-append (l ++ crlf) (spelled ls),
      length-append l crlf,
    )

-- a line without a dot at its front stays
unstuffed_line-plain : (l : List ℕ) → dot_of l ≡ 0 → unstuffed_line l ≡ l
unstuffed_line-plain [] h = refl
unstuffed_line-plain (a ∷ l) h = ⊎_elim
    (λ t. let one : 1 ≡ 0 = sym (cond-true {A = ℕ} (a == 46) 1 0 t) ∙ h in absurd (omega arith))
    (λ f. cond-false _ l (a ∷ l) f)
    (cases_Bool (a == 46))

-- lines without such dots stay
pub unstuffed-plain : (ls : List (List ℕ)) → dots_of ls ≡ 0 → unstuffed ls ≡ spelled ls
unstuffed-plain [] h = refl
unstuffed-plain (l ∷ ls) h =
    ap (λ (x : List ℕ). (x ++ crlf) ++ unstuffed ls) (unstuffed_line-plain l (omega arith))
    ∙ ap (λ (x : List ℕ). (l ++ crlf) ++ x) (unstuffed-plain ls (omega arith))

-- the lines and their dots are no more than the octets
pub passed-bounds : (s : List ℕ) (passed looked dots : ℕ) → IsPassed s passed looked dots
    → (passed ≤ length s) × (dots ≤ passed)
passed-bounds s passed looked dots h =
    let sum = length-append (spelled h.lines) h.tail in
    let whole = ap length h.whole in
    let count = h.count in
    let dotted = h.dotted in
    let unstuffing = length-unstuffed h.lines in
    (omega arith, omega arith)

-- whether octets begin with the lone dot
pub closed_or_not : (s : List ℕ) (r : Bool) → r ≡ starts_with eqb s (46 ∷ 13 ∷ 10 ∷ [])
    → MatchBool r (ClosesAt s 0) (IsUnclosed s)
closed_or_not s true is =
    let whole = (starts_is Decides-eqb s (46 ∷ 13 ∷ 10 ∷ []) true is).0 refl in
    ap first_line whole
closed_or_not s false is = λ rest e.
    true≢false (sym ((starts_is Decides-eqb s (46 ∷ 13 ∷ 10 ∷ []) false is).1 rest e))

-- a lone dot that comes next closes the block
pub dot_closes : (s : List ℕ) (passed : ℕ) → ClosesAt (drop passed s) 0 → ClosesAt s passed
dot_closes s passed closes =
    closes ∙ ap (λ (x : List ℕ). Some (dot, x))
    (drop-drop 3 passed s)

-- a dot in front is counted by the octets that begin with it
dot_of-front : (l after : List ℕ) → dot_of (l ++ 13 ∷ 10 ∷ after) ≡ dot_of l
dot_of-front [] after = refl
dot_of-front (a ∷ l) after = refl

-- octets that begin with no dot have none in front
dot_of-none : (s : List ℕ) → ((after : List ℕ) → s ≢ 46 ∷ after) → dot_of s ≡ 0
dot_of-none [] none = refl
dot_of-none (a ∷ s) none = ⊎_elim
    (λ t. absurd (none s (ap (λ (x : ℕ). x ∷ s) (eqb-true a 46 t))))
    (λ f. cond-false {A = ℕ} (a == 46) 1 0 f)
    (cases_Bool (a == 46))

-- whole lines up to a place, of which the first alone may begin with a dot, and which don't begin
-- with the lone dot: the front of at most n octets is open lines, and its dot is theirs
record OpenFront (t front : List ℕ) : Type 0 where
  lines : List (List ℕ)
  spelling : spelled lines ≡ front ++ crlf
  unclosed : AreOpenLines lines
  dotted : dots_of lines ≡ dot_of t

abbrev OpensFronts : ℕ → Type 0
OpensFronts n =
    (t front after : List ℕ) → length t ≤ n → t ≡ front ++ 13 ∷ 10 ∷ after
    → ((x y : List ℕ) → t ≡ x ++ 13 ∷ 10 ∷ 46 ∷ y → length front ≤ length x) → IsUnclosed t
    → OpenFront t front

open_front : (n : ℕ) → OpensFronts n
open_front zero t front after fits whole first unclosed =
    absurd (omega (arith, fits, ap length whole, length-append front (13 ∷ 10 ∷ after)))
open_front (suc n) t front after fits whole first unclosed =
    by (open_front n) (first_line t) refl
  where
    by : OpensFronts n → (o : Option (List ℕ × List ℕ)) → first_line t ≡ o → OpenFront t front
    by shorter None e = absurd (no_first_line t front after e whole)
    by shorter (Some p) e =
        let l = p.0 in
        let r = p.1 in
        let line = first_line_whole t p e in
        let is_line = IsLine-from_first t l r e in
        let dots : dot_of t ≡ dot_of l = ap dot_of line ∙ dot_of-front l r in
        let open_line : bytes_eq l dot ≡ false = false_from_ne_true _ (λ same.
        unclosed r (line ∙ ap (λ (x : List ℕ). x ++ 13 ∷ 10 ∷ r)
        ((bytes_eq-Decides l dot).0 same))) in
        ⊎_elim
        (λ less.
        let parts = between t l r front after line whole less in
        let next = drop (length l + 2) front in
        let plain : (a : List ℕ) → r ≢ 46 ∷ a = λ a same. omega (
          arith,
          less,
          first l a (line ∙ ap (λ (x : List ℕ). l ++ 13 ∷ 10 ∷ x) same),
        ) in
        let long : length front ≡ length l + 2 + length next = ap length parts.1
        ∙ omega (arith, length-append (l ++ crlf) next, length-append l crlf) in
        let later = shorter r next after
        (omega (arith, fits, ap length line, length-append l (13 ∷ 10 ∷ r))) parts.0
        (λ x y same. omega (
          arith,
          long,
          first ((l ++ crlf) ++ x) y (dot_later t l r x y line same),
          length-append (l ++ crlf) x,
          length-append l crlf,
        )) (λ rest. plain (13 ∷ 10 ∷ rest)) in
        record {
          lines = l ∷ later.lines;
          spelling = ap (λ (x : List ℕ). (l ++ crlf) ++ x) later.spelling
              ∙ sym (append_assoc (l ++ crlf) next crlf)
              ∙ ap (λ (x : List ℕ). x ++ crlf) (sym parts.1);
          unclosed = (is_line, open_line, later.unclosed);
          dotted = omega (arith, later.dotted, dot_of-none r plain, dots);
        })
        (λ past.
        let least = (CutsLine-from_first t l r e).shortest front after whole in
        let same = same_front l front (13 ∷ 10 ∷ r) (13 ∷ 10 ∷ after) (sym line ∙ whole)
        (omega (arith, past, least)) in
        record {
          lines = l ∷ [];
          spelling = append-nil (l ++ crlf) ∙ ap (λ (x : List ℕ). x ++ crlf) same.0;
          unclosed = (is_line, open_line, tt);
          dotted = omega (arith, dots);
        })
        (cases_lt (length l) (length front))

-- more lines at the end
AreOpenLines-append : (ls ms : List (List ℕ)) → AreOpenLines ls → AreOpenLines ms
    → AreOpenLines (ls ++ ms)
AreOpenLines-append [] ms h more = more
AreOpenLines-append (x ∷ ls) ms h more = (h.0, h.1, AreOpenLines-append ls ms h.2 more)

dots_of-append : (ls ms : List (List ℕ)) → dots_of (ls ++ ms) ≡ dots_of ls + dots_of ms
dots_of-append [] ms = omega arith
dots_of-append (x ∷ ls) ms = omega (arith, dots_of-append ls ms)

-- whole lines of which the first alone may begin with a dot are passed too
pub pass_front : (s : List ℕ) (passed looked dots next : ℕ) (front after : List ℕ)
    → IsPassed s passed looked dots → drop passed s ≡ front ++ 13 ∷ 10 ∷ after
    → ((x y : List ℕ) → drop passed s ≡ x ++ 13 ∷ 10 ∷ 46 ∷ y → length front ≤ length x)
    → IsUnclosed (drop passed s) → next ≡ length front + 2
    → IsPassed s (passed + next) 0 (dots + dot_of (drop passed s))
pass_front s passed looked dots next front after h whole first unclosed e =
    let left = drop passed s in
    let same : left ≡ h.tail = passed-tail s passed looked dots h in
    let more = open_front (length left) left front after (omega arith) whole first unclosed in
    let spelling : spelled (h.lines ++ more.lines) ≡ spelled h.lines ++ (front ++ crlf) =
    flat_map-append (λ (line : List ℕ). line ++ crlf) h.lines more.lines
    ∙ ap (λ (x : List ℕ). spelled h.lines ++ x) more.spelling in
    record {
      lines = h.lines ++ more.lines;
      unclosed = AreOpenLines-append h.lines more.lines h.unclosed more.unclosed;
      tail = after;
      whole = h.whole ∙ ap (λ (x : List ℕ). spelled h.lines ++ x)
          (sym same ∙ whole ∙ sym (append_assoc front crlf after))
          ∙ sym (append_assoc (spelled h.lines) (front ++ crlf) after)
          ∙ ap (λ (x : List ℕ). x ++ after) (sym spelling);
      count = ap length spelling
          ∙ omega (
            arith,
            h.count,
            length-append (spelled h.lines) (front ++ crlf),
            length-append front crlf,
            e,
          );
      dotted = omega (arith, dots_of-append h.lines more.lines, h.dotted, more.dotted);
      seen = IsLooked-none after;
    }

-- so is the next line, unless it is the lone dot
pub pass_line : (s : List ℕ) (passed looked dots end : ℕ) → IsPassed s passed looked dots
    → LineEnds (drop passed s) end
    → bytes_eq (take end (drop passed s)) dot ≡ false
    → IsPassed s (passed + end + 2) 0 (dots + dot_of (take end (drop passed s)))
pass_line s passed looked dots end h ends open_line =
    let left = drop passed s in
    let line = take end left in
    let rest = drop (end + 2) left in
    let fits = ends.fits in
    let whole : left ≡ line ++ 13 ∷ 10 ∷ rest = first_line_whole left (line, rest) ends.first in
    let least = (CutsLine-from_first left line rest ends.first).shortest in
    let unclosed : IsUnclosed left = λ r e.
    let same : line ≡ dot = ap (λ (p : List ℕ × List ℕ). p.0)
    (same_Some (line, rest) (dot, r) (sym ends.first ∙ ap first_line e)) in
    true≢false (sym ((bytes_eq-Decides line dot).1 same) ∙ open_line) in
    let passes : IsPassed s (passed + (end + 2)) 0 (dots + dot_of left) =
    pass_front s passed looked dots (end + 2) line rest h whole (λ x y e. least x (46 ∷ y) e)
    unclosed (omega (arith, length-take-le end left (omega arith))) in
    subst (λ (n : ℕ). IsPassed s n 0 (dots + dot_of line)) (omega arith)
    (subst (λ (n : ℕ). IsPassed s (passed + (end + 2)) 0 (dots + n))
    (ap dot_of whole ∙ dot_of-front line rest) passes)

-- no line follows: all that follows was looked at
pub look_stops : (s : List ℕ) (passed looked dots n : ℕ) → IsPassed s passed looked dots
    → first_line (drop passed s) ≡ None → n ≡ length s - passed - 1
    → IsPassed s passed n dots
look_stops s passed looked dots n h none e =
    let same : drop passed s ≡ h.tail = passed-tail s passed looked dots h in
    record {
      lines = h.lines;
      unclosed = h.unclosed;
      tail = h.tail;
      whole = h.whole;
      count = h.count;
      dotted = h.dotted;
      seen = looked_all h.tail n (ap first_line (sym same) ∙ none)
          (omega (arith, length-drop passed s, ap length same));
    }

-- lines of a block are lines
AreLines-open : (ls : List (List ℕ)) → AreOpenLines ls → AreLines ls
AreLines-open [] h = tt
AreLines-open (l ∷ ls) h = (h.0, AreLines-open ls h.2)

-- the lines that were passed are those of their text
pub passed-text_lines : (s : List ℕ) (passed looked dots : ℕ) (h : IsPassed s passed looked dots)
    → text_lines (take passed s) ≡ h.lines
passed-text_lines s passed looked dots h = ap text_lines (passed-lines s passed looked dots h)
    ∙ text_lines-spelled h.lines (AreLines-open h.lines h.unclosed)

-- they are whole
pub passed-whole : (s : List ℕ) (passed looked dots : ℕ) → IsPassed s passed looked dots
    → spelled (text_lines (take passed s)) ≡ take passed s
passed-whole s passed looked dots h = ap spelled (passed-text_lines s passed looked dots h)
    ∙ sym (passed-lines s passed looked dots h)

-- their dots were counted
pub passed-dots : (s : List ℕ) (passed looked dots : ℕ) → IsPassed s passed looked dots
    → dots_of (text_lines (take passed s)) ≡ dots
passed-dots s passed looked dots h = ap dots_of (passed-text_lines s passed looked dots h)
    ∙ h.dotted

-- where no line follows no block is whole
pub next_block-open : (limit : ℕ) (s : List ℕ) (passed looked dots : ℕ)
    → IsPassed s passed looked dots → first_line (drop passed s) ≡ None
    → next_block limit s ≡ Unfinished
next_block-open limit s passed looked dots h none =
    let same : drop passed s ≡ h.tail = passed-tail s passed looked dots h in
    ap (next_block_by limit) (first_block-none s h.lines h.tail h.whole h.unclosed
    (ap first_line (sym same) ∙ none))

-- where the lone dot follows the block is whole
pub first_block-closed : (s : List ℕ) (passed looked dots : ℕ) → IsPassed s passed looked dots
    → ClosesAt s passed
    → first_block s ≡ Some (text_lines (take passed s), drop (passed + 3) s)
first_block-closed s passed looked dots h closes =
    let rest = drop (passed + 3) s in
    let same : drop passed s ≡ h.tail = passed-tail s passed looked dots h in
    let tail : h.tail ≡ 46 ∷ 13 ∷ 10 ∷ rest =
    sym same ∙ first_line_whole (drop passed s) (dot, rest) closes in
    first_block-cuts s h.lines rest
    (record {
      whole = h.whole ∙ ap (λ (x : List ℕ). spelled h.lines ++ x) tail;
      unclosed =
          h.unclosed;
    })
    ∙ ap (λ (x : List (List ℕ)). Some (x, rest)) (sym (passed-text_lines s passed looked dots h))

-- the lone dot takes three octets
pub ClosesAt-fits : (s : List ℕ) (passed : ℕ) → ClosesAt s passed → passed + 3 ≤ length s
ClosesAt-fits s passed closes =
    let rest = drop (passed + 3) s in
    let count = ap length (first_line_whole (drop passed s) (dot, rest) closes) in
    omega (arith, count, length-drop passed s)

-- the text of whole lines has their octets without their dots
pub length-text : (ls : List (List ℕ)) (octets : List ℕ) (dots : ℕ) → spelled ls ≡ octets
    → dots_of ls ≡ dots → length (unstuffed ls) + dots ≡ length octets
length-text ls octets dots whole dotted = ap (λ (n : ℕ). length (unstuffed ls) + n) (sym dotted)
    ∙ length-unstuffed ls ∙ ap length whole

-- the text of whole lines with no dots is they
pub plain_text : (ls : List (List ℕ)) (octets : List ℕ) → spelled ls ≡ octets → dots_of ls ≡ 0
    → octets ≡ unstuffed ls
plain_text ls octets whole none = sym whole ∙ sym (unstuffed-plain ls none)
