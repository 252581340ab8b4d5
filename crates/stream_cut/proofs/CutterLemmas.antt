-- The fields of a cutter as a stream.
use Rattle.std.proofs.Common.{◌≡◌, ℕ, ◌+◌, ◌-◌, ◌≤◌, min, Bool, List, [], ◌++◌, length, take}
use Rattle.std.proofs.Common.{drop, ◌∷◌, Option, Some, None, refl, sym, ap, subst, ◌∙◌, arith}
use Rattle.std.proofs.Common.{⊎_elim}
use Rattle.std.proofs.Common.{append_assoc, length-append, length-drop}
use Rattle.std.proofs.Math.Seq.{drop-append-add, drop-append_seam}
use Rattle.std.proofs.lemmas.List.{drop-append-le, drop-drop, drop_all, length-take-le, take_rest}
use Rattle.std.proofs.lemmas.Bool.{cases_lt}
use Rattle.news_terms.specs.Lines.{Cut, next_line}
use Rattle.news_terms.specs.Blocks.{stuffed_room, text_lines}
use Rattle.news_terms.specs.Blocks as blocks
use Rattle.news_terms.proofs.NextLemmas.{next_block-whole}
use Rattle.stream_cut.specs.Look.{FindsLine, IsLooked, IsPassed}
use Rattle.stream_cut.specs.Past.{ArePast, EndWithin, HasDropped, KeepsStream, StandsWhole}
use Rattle.stream_cut.specs.Past.{StandsOpen, StandsOversize, StandsPast}
use Rattle.stream_cut.specs.Stream.{Stream, IsPastLimit, ShowsBlock, ShowsLine, ShowsOversize}
use Rattle.stream_cut.specs.Stream.{AwaitsEnd}
use Rattle.stream_cut.specs.declared.look.LineLook.TheVariants.{Ends}
use Rattle.stream_cut.specs.declared.look.Progress.{Progress}
use Rattle.stream_cut.specs.declared.past.Within.{Within}
use Rattle.stream_cut.specs.declared.past.Within.TheVariants as within
use Rattle.stream_cut.proofs.PassLemmas.{first_block-closed, passed-whole, passed-dots}
use Rattle.stream_cut.proofs.PassLemmas.{passed-bounds, length-text, plain_text, ClosesAt-fits}
use Rattle.stream_cut.proofs.PastLemmas.{IsLooked-append, past_more, two_parts}

-- what the code has as kept octets
pub kept_is : (octets items : List ℕ) (start : ℕ) → octets ≡ items
    → take (length octets - start) (drop start octets) ≡ drop start items
kept_is octets items start same = take_rest octets start ∙ ap (drop start) same

-- what holds of the octets behind those that are gone, as the code has them
pub of_kept : (P : List ℕ → List ℕ → Type 0) (octets items : List ℕ) (start limit : ℕ)
    (passing : Option Within) (gone : List ℕ) → octets ≡ items
    → HasDropped limit passing gone (drop start items)
    → ((g : List ℕ) → HasDropped limit passing g (take (length octets - start) (drop start octets))
    → P g (take (length octets - start) (drop start octets)))
    → P gone (drop start items)
of_kept P octets items start limit passing gone same dropped holds =
    subst (λ (x : List ℕ). (g : List ℕ) → HasDropped limit passing g x → P g x)
    (kept_is octets items start same) holds gone dropped

-- nothing was looked at
passed_none : (s : List ℕ) → IsPassed s 0 0 0
passed_none s = record {
  lines = [];
  unclosed = tt;
  tail = s;
  whole = refl;
  count = refl;
  dotted = refl;
  seen = record { within = omega arith; none = λ k less. absurd (omega arith) };
}

-- of the octets that are kept so many go
pub drops_more : (items : List ℕ) (start limit : ℕ) (gone : List ℕ) (count : ℕ) (end : Within)
    (after : List ℕ) (looked : Progress) → start ≤ length items
    → StandsPast limit gone (drop start items) count end
    → after ≡ gone ++ take count (drop start items)
    → looked ≡ record { passed = 0; looked = 0; dots = 0 }
    → KeepsStream items (start + count) limit (Some end) after
    looked.passed looked.looked looked.dots
drops_more items start limit gone count end after looked fits h is none = record {
  within = omega (arith, fits, h.within, length-drop start items);
  seen = subst (λ (p : Progress). IsPassed (drop (start + count) items) p.passed p.looked p.dots)
      (sym none) (passed_none (drop (start + count) items));
  dropped = subst (λ (g : List ℕ). ArePast limit end g (drop (start + count) items)) (sym is)
      (subst (λ (x : List ℕ). ArePast limit end (gone ++ take count (drop start items)) x)
      (drop-drop count start items) h.drops);
}

-- more octets leave what was passed as it is
IsPassed-append : (s more : List ℕ) (passed looked dots : ℕ) → IsPassed s passed looked dots
    → IsPassed (s ++ more) passed looked dots
IsPassed-append s more passed looked dots h = record {
  lines = h.lines;
  unclosed = h.unclosed;
  tail = h.tail ++ more;
  whole = ap (λ (x : List ℕ). x ++ more) h.whole ∙ append_assoc _ h.tail more;
  count = h.count;
  dotted = h.dotted;
  seen = IsLooked-append h.tail more looked h.seen;
}

-- and what is gone
ends-append : (end : Within) (gone kept more : List ℕ) → EndWithin end gone kept
    → EndWithin end gone (kept ++ more)
ends-append within.Block gone kept more h = h
ends-append within.Line gone kept more h = record {
  before = h.before;
  lines = h.lines;
  front = h.front;
  whole = h.whole;
  long = h.long;
  goes_on = subst (λ (x : List ℕ). IsLooked x (length h.front)) (append_assoc h.front kept more)
      (IsLooked-append (h.front ++ kept) more (length h.front) h.goes_on);
}

dropped-append : (limit : ℕ) (passing : Option Within) (gone kept more : List ℕ)
    → HasDropped limit passing gone kept
    → HasDropped limit passing gone (kept ++ more)
dropped-append limit None gone kept more h = h
dropped-append limit (Some end) gone kept more h = record {
  some = h.some;
  past = subst (IsPastLimit limit) (append_assoc gone kept more)
      (past_more limit (gone ++ kept) more h.past);
  ends = ends-append end gone kept more h.ends;
}

-- a piece is added
pub keeps_more : (octets piece : List ℕ) (start limit : ℕ) (passing : Option Within)
    (gone : List ℕ) (passed looked dots : ℕ)
    → KeepsStream octets start limit passing gone passed looked dots
    → KeepsStream (octets ++ piece) start limit passing gone passed looked dots
keeps_more octets piece start limit passing gone passed looked dots h =
    let same : drop start octets ++ piece ≡ drop start (octets ++ piece) =
    sym (drop-append-le start octets piece h.within) in
    record {
      within = omega (arith, h.within, length-append octets piece);
      seen = subst (λ (x : List ℕ). IsPassed x passed looked dots) same
          (IsPassed-append (drop start octets) piece passed looked dots h.seen);
      dropped = subst (HasDropped limit passing gone) same
          (dropped-append limit passing gone (drop start octets) piece h.dropped);
    }

-- what is left once some of the octets that are kept are passed
pub left_after : (gone octets : List ℕ) (start count least : ℕ) → start ≤ length octets
    → least ≡ min count (length octets - start)
    → drop (start + least) octets ≡ drop (length gone + count) (gone ++ drop start octets)
left_after gone octets start count least fits e =
    let all : drop (length gone + count) (gone ++ drop start octets) ≡ drop (start + count) octets =
    drop-append-add gone (drop start octets) count ∙ drop-drop count start octets in
    ⊎_elim
    (λ few.
    let same : start + least ≡ start + count = omega arith in
    ap (λ (n : ℕ). drop n octets) same ∙ sym all)
    (λ many. drop_all (start + least) octets (omega arith)
    ∙ sym (drop_all (start + count) octets (omega arith)) ∙ sym all)
    (cases_lt count (length octets - start))

-- the stream of what is gone and what is kept
abbrev pub stream_of : List ℕ → List ℕ → (held room limit : ℕ) → Bool → Stream
stream_of gone kept held room limit overlong = record {
  unread = gone ++ kept;
  dropped = length gone;
  held = held;
  room = room;
  limit = limit;
  overlong = overlong;
}

-- all octets are kept where none are gone
none_gone : (gone kept : List ℕ) → length gone ≡ 0 → gone ++ kept ≡ kept
none_gone [] kept none = refl
none_gone (a ∷ gone) kept none = absurd (omega (arith, none))

pub all_kept : (gone kept : List ℕ) (held room limit : ℕ) (overlong : Bool) (s : Stream)
    → stream_of gone kept held room limit overlong ≡ s → s.dropped ≡ 0 → s.unread ≡ kept
all_kept gone kept held room limit overlong s is none =
    ap (λ (s : Stream). s.unread) (sym is)
    ∙ none_gone gone kept (ap (λ (s : Stream). s.dropped) is ∙ none)

-- a line that ends among the octets that are kept is shown
pub shows_line : (s : Stream) (kept : List ℕ) (end : ℕ) → s.dropped ≡ 0 → s.unread ≡ kept
    → FindsLine kept (Ends end) → ShowsLine s end
shows_line s kept end none all found = record {
  kept = none;
  within = subst (λ (x : List ℕ). end + 2 ≤ length x) (sym all) found.0;
  cut = subst (λ (x : List ℕ). next_line x ≡ Cut (take end x) (drop (end + 2) x)) (sym all)
      found.1;
}

-- a block that stands at the front is shown
pub shows_block
    : (gone kept : List ℕ) (held room limit : ℕ) (overlong : Bool) (passed looked dots : ℕ)
    → StandsWhole limit gone kept passed looked dots
    → ShowsBlock (stream_of gone kept held room limit overlong) passed dots
shows_block gone kept held room limit overlong passed looked dots h =
    subst (λ (g : List ℕ). ShowsBlock (stream_of g kept held room limit overlong) passed dots)
    (sym h.none)
    (at h.seen (passed-bounds kept passed looked dots h.seen).0)
  where
    at : IsPassed kept passed looked dots → passed ≤ length kept
        → ShowsBlock (stream_of [] kept held room limit overlong) passed dots
    at seen bound =
        let lines = text_lines (take passed kept) in
        let whole = passed-whole kept passed looked dots seen in
        let dotted = passed-dots kept passed looked dots seen in
        let octets : length (take passed kept) ≡ passed = length-take-le passed kept bound in
        let text = length-text lines (take passed kept) dots whole dotted in
        record {
          kept = refl;
          within = ClosesAt-fits kept passed h.closes;
          cut = next_block-whole limit kept lines (drop (passed + 3) kept)
              (first_block-closed kept passed looked dots seen h.closes)
              (omega (arith, text, octets, h.fits));
          lines = whole;
          dotted = dotted;
          count = text ∙ octets;
          plain = λ none. sym (plain_text lines (take passed kept) whole (dotted ∙ none));
        }

-- so is one past the limit
pub shows_oversize : (gone kept : List ℕ) (held room limit : ℕ) (overlong : Bool) (count : ℕ)
    → StandsOversize limit gone kept count
    → ShowsOversize (stream_of gone kept held room limit overlong) count
shows_oversize gone kept held room limit overlong count h = record {
  within = subst (λ (x : List ℕ). count ≤ length x) (sym (drop-append_seam gone kept)) h.within;
  cut = h.cut ∙ ap blocks.Oversize (sym (drop-append-add gone kept count));
}

-- none is whole, and all octets stay
pub awaits_open : (gone kept : List ℕ) (held room limit : ℕ) (overlong : Bool)
    (passed looked dots : ℕ) → StandsOpen limit gone kept passed looked dots
    → AwaitsEnd (stream_of gone kept held room limit overlong)
    (stream_of gone kept held room limit overlong)
awaits_open gone kept held room limit overlong passed looked dots h = record {
  unfinished = h.unfinished;
  left = refl;
  grows = omega arith;
  past = λ some. absurd (omega (arith, some, ap length h.none));
  bounded = subst (λ (x : List ℕ). length x ≤ stuffed_room limit)
      (sym (drop-append_seam gone kept)) h.bounded;
  few = λ some. absurd (omega (arith, some, ap length h.none));
}

-- octets go
pub awaits_past
    : (gone kept : List ℕ) (held room limit : ℕ) (overlong : Bool) (count : ℕ) (end : Within)
    (after left : List ℕ)
    → StandsPast limit gone kept count end → after ≡ gone ++ take count kept
    → left ≡ drop count kept
    → AwaitsEnd (stream_of gone kept held room limit overlong)
    (stream_of after left held room limit overlong)
awaits_past gone kept held room limit overlong count end after left h is rest =
    let all : after ++ left ≡ gone ++ kept =
    ap (λ (x : List ℕ). x ++ left) is ∙ ap (λ (x : List ℕ). (gone ++ take count kept) ++ x) rest
    ∙ two_parts count gone kept in
    let grown : length after ≡ length gone + length (take count kept) =
    ap length is ∙ length-append gone (take count kept) in
    let few : length (drop (length after) (after ++ left)) ≤ 2 = omega (
      arith,
      h.few,
      ap length (drop-append_seam after left),
      ap length rest,
      length-drop count kept,
    ) in
    record {
      unfinished = h.unfinished;
      left = ap (λ (x : List ℕ). record {
        unread = x;
        dropped = length after;
        held = held;
        room = room;
        limit = limit;
        overlong = overlong;
      }) all;
      grows = omega (arith, grown);
      past = λ some. subst (IsPastLimit limit) (two_parts count gone kept) (h.drops).past;
      bounded = omega (arith, few);
      few = λ some. few;
    }
