-- What a crash leaves, and what is found of it again.
use Rattle.std.proofs.Common.{◌≡◌, ◌⊎◌, ◌∙◌, ℕ, ◌+◌, ◌*◌, ◌<◌, ◌≤◌, inl, inr, Bool, true}
use Rattle.std.proofs.Common.{sym, ap, arith, List, [], ◌∷◌, length}
use Rattle.std.proofs.Common.{Some}
use Rattle.std.specs.List.{AllByRecursion}
use Rattle.std.proofs.Math.Nat.{mul-le-mul_right}
use Rattle.std.proofs.lemmas.Bool.{cond-false, cond-true}
use Rattle.news_terms.specs.Places.{Buffer, size_of, on_line}
use Rattle.news_terms.specs.Token.{Token}
use Rattle.cyc_buffer.specs.BufferState.{IsSized}
use Rattle.cyc_buffer.specs.Crash.{IsCrashOf, IsFoundAgain, IsFrontOn, IsLeftOf, IsOfHistory}
use Rattle.cyc_buffer.specs.Crash.{IsPiece}
use Rattle.cyc_buffer.specs.Crash.{CanBeFound, IsThere, Tells}
use Rattle.cyc_buffer.specs.History.{Article, Begin, History, begun_at, cycle_of, finished_at}
use Rattle.cyc_buffer.specs.History.{front_of, head_of, is_at}
use Rattle.cyc_buffer.specs.Stopped.{used_of}
use Rattle.cyc_buffer.proofs.Finished.{at_parts, none_is_none, of_size, place_of, same_some}
use Rattle.cyc_buffer.proofs.FoundLemmas.{front_within, inside_unpassed}
use Rattle.cyc_buffer.proofs.Numbers.{live_place, live_unpassed}
use Rattle.cyc_buffer.proofs.Places.{chosen, placed, placed_within}

-- a place is behind one of the same cycle or an earlier one, as far as its cycle has room
placed_behind : (count run used at first : ℕ) → used ≤ count
    → ((at ≡ run) × (used ≤ first)) ⊎ (run < at)
    → on_line count run used ≤ on_line count at first
placed_behind count run used at first room (inl p) =
    omega (arith, p.1, ap (λ n. n * count) p.0)
placed_behind count run used at first room (inr p) =
    omega (
      arith,
      room,
      one_more run count,
      mul-le-mul_right {m = run + 1} {n = at} count (omega (arith, p)),
    )
  where
    one_more : (n count : ℕ) → (n + 1) * count ≡ n * count + count
    one_more n count = omega arith

-- where the front is after these begins
abbrev pub front_in : Buffer → List Begin → ℕ
front_in buffer begins = on_line buffer.blocks
    (buffer.first_cycle + (head_of buffer.blocks begins).run) (head_of buffer.blocks begins).used

-- the head of begins that fit is within the buffer
used_within : (buffer : Buffer) (begins : List Begin)
    → AllByRecursion (IsSized buffer.blocks) begins
    → (head_of buffer.blocks begins).used ≤ buffer.blocks
used_within buffer [] sized = omega arith
used_within buffer (b ∷ earlier) sized =
    placed_within buffer.blocks (head_of buffer.blocks earlier) b.fresh b.size sized.0.within

-- a begin's place is at the front or past it
pub place_past : (buffer : Buffer) (b : Begin) (earlier : List Begin)
    → AllByRecursion (IsSized buffer.blocks) earlier
    → front_in buffer earlier
    ≤ on_line buffer.blocks (buffer.first_cycle + (place_of buffer earlier b).run)
    (place_of buffer earlier b).used
place_past buffer b earlier sized =
    let head = head_of buffer.blocks earlier in
    let at = place_of buffer earlier b in
    placed_behind buffer.blocks (buffer.first_cycle + head.run) head.used
    (buffer.first_cycle + at.run) at.used (used_within buffer earlier sized)
    (elim (placed buffer.blocks head b.fresh b.size) [
      | inl p ↦ inl (omega (arith, p.0), omega (arith, p.1))
      | inr p ↦ inr (omega (arith, p.0))
    ])

-- a begin doesn't move the front back
pub front_rises : (buffer : Buffer) (b : Begin) (earlier : List Begin)
    → AllByRecursion (IsSized buffer.blocks) earlier
    → front_in buffer earlier ≤ front_in buffer (b ∷ earlier)
front_rises buffer b earlier sized = omega (arith, place_past buffer b earlier sized)

-- what was begun ends by the front
pub begun_before : (buffer : Buffer) (begins : List Begin) (cycle first size : ℕ)
    → AllByRecursion (IsSized buffer.blocks) begins
    → begun_at buffer begins cycle first ≡ Some size
    → on_line buffer.blocks cycle (first + size) ≤ front_in buffer begins
begun_before buffer [] cycle first size sized e = absurd (none_is_none e)
begun_before buffer (b ∷ earlier) cycle first size sized e =
    elim (chosen (is_at buffer (place_of buffer earlier b) cycle first) (Some b.size)
    (begun_at buffer earlier cycle first) (Some size) e) [
      | inl p ↦
          let at = at_parts buffer (place_of buffer earlier b) cycle first p.0 in
          omega (arith, ap (λ n. n * buffer.blocks) at.0, at.1, same_some p.1)
      | inr p ↦ omega (
        arith,
        begun_before buffer earlier cycle first size sized.1 p.1,
        front_rises buffer b earlier sized.1,
      )
    ]

-- the front is at the front of the first cycle or past it
front_starts : (buffer : Buffer) (begins : List Begin)
    → on_line buffer.blocks buffer.first_cycle 0 ≤ front_in buffer begins
front_starts buffer begins =
    let head = head_of buffer.blocks begins in
    omega (
      arith,
      mul-le-mul_right {m = buffer.first_cycle} {n = buffer.first_cycle + head.run}
          buffer.blocks (omega arith),
    )

-- what was finished was begun
finished_begun : (buffer : Buffer) (begins : List Begin) (cycle first : ℕ) (article : Article)
    → AllByRecursion (IsSized buffer.blocks) begins
    → finished_at buffer begins cycle first ≡ Some article
    → begun_at buffer begins cycle first ≡ Some (size_of (length article.text))
finished_begun buffer [] cycle first article sized e = absurd (none_is_none e)
finished_begun buffer (b ∷ earlier) cycle first article sized e =
    let here = is_at buffer (place_of buffer earlier b) cycle first in
    elim (chosen here b.finished (finished_at buffer earlier cycle first) (Some article) e) [
      | inl p ↦ cond-true here (Some b.size) (begun_at buffer earlier cycle first) p.0
          ∙ ap Some (sym (of_size b.size b.finished article sized.0.finished p.1).size)
      | inr p ↦ cond-false here (Some b.size) (begun_at buffer earlier cycle first) p.0
          ∙ finished_begun buffer earlier cycle first article sized.1 p.1
    ]

-- the first block of an article all of which is there
first_there : (buffer : Buffer) (blocks : List (List ℕ)) (t : Token) → IsThere buffer blocks t
    → IsPiece buffer blocks t 0
first_there buffer blocks t there = there.pieces 0 (omega (arith, there.some))

-- A device that a crash has left.
module _ (h : History) (kept : Token → Bool) (blocks : List (List ℕ))
    (left : IsLeftOf h kept blocks) (c u : ℕ) (front : IsFrontOn h.buffer blocks c u) where
  -- its front isn't past that of the history
  pub front_before : on_line h.buffer.blocks c u ≤ front_of h
  front_before = elim front.reached [
    | inl r ↦ omega (
      arith,
      left.passed r.token r.index r.piece,
      ap (λ n. n * h.buffer.blocks) r.cycle_is,
      r.used_is,
    )
    | inr r ↦ omega (
      arith,
      front_starts h.buffer h.begins,
      ap (λ n. n * h.buffer.blocks) r.cycle_is,
      r.used_is,
    )
  ]

  -- what was to be kept is found again
  pub kept_found : (t : Token) → kept t ≡ true → IsFoundAgain h.buffer blocks c u t
  kept_found t k =
      let there = left.there t k in
      let piece = first_there h.buffer blocks t there in
      let ends = front.last t 0 piece in
      let live = (left.live t k).live in
      record {
        there = there;
        live = live_place h.buffer.blocks c u t.cycle t.first
            (omega (arith, piece.ends, piece.inside))
            (front_within h.buffer blocks c u front)
            (omega (arith, ends, piece.inside))
            (omega (arith, front_before, live.here));
      }

  -- what is found was begun, and has its text where it was finished
  pub found_begun : (t : Token) → IsFoundAgain h.buffer blocks c u t → IsOfHistory h blocks t
  found_begun t found =
      let piece = first_there h.buffer blocks t found.there in
      let live = live_unpassed h.buffer.blocks c u t.cycle t.first
      (omega (arith, piece.ends, piece.inside)) (front_within h.buffer blocks c u front)
      found.live in
      left.begun t (record {
        there = found.there;
        unpassed = λ s k p. omega (arith, front.last s k p, live.here);
      })

-- block by block, what a crash leaves is what it may have left
pub crash_left : (h : History) (kept : Token → Bool) (blocks : List (List ℕ))
    → AllByRecursion (IsSized h.buffer.blocks) h.begins → IsCrashOf h kept blocks
    → IsLeftOf h kept blocks
crash_left h kept blocks sized crash = record {
  count = crash.count;
  passed = λ t k piece. begun_before h.buffer h.begins t.cycle t.first (size_of t.length) sized
      (crash.own t k piece);
  begun = λ t found.
      let first = first_there h.buffer blocks t found.there in
      record {
        size = crash.own t 0 first;
        class = λ article finished. crash.class t 0 article first finished;
        octets = λ article finished. crash.octets t 0 article first finished;
        text = λ article k finished inside. crash.text t k article
            (found.there.pieces k inside) finished;
      };
  live = crash.live;
  there = crash.there;
}

-- what can be found again is found
again_found : (buffer : Buffer) (blocks : List (List ℕ)) (c u : ℕ) → IsFrontOn buffer blocks c u
    → (t : Token) → CanBeFound buffer blocks t → IsFoundAgain buffer blocks c u t
again_found buffer blocks c u front t found =
    let piece = first_there buffer blocks t found.there in
    let ends = front.last t 0 piece in
    let here : on_line buffer.blocks c u ≤ on_line buffer.blocks t.cycle t.first + buffer.blocks =
    elim front.reached [
      | inl r ↦ omega (
        arith,
        found.unpassed r.token r.index r.piece,
        ap (λ n. n * buffer.blocks) r.cycle_is,
        r.used_is,
      )
      | inr r ↦ omega (
        arith,
        r.used_is,
        ap (λ n. n * buffer.blocks) r.cycle_is,
        mul-le-mul_right {m = buffer.first_cycle} {n = t.cycle} buffer.blocks piece.begun,
      )
    ] in
    record {
      there = found.there;
      live = live_place buffer.blocks c u t.cycle t.first
          (omega (arith, piece.ends, piece.inside)) (front_within buffer blocks c u front)
          (omega (arith, ends, piece.inside)) here;
    }

-- what a device tells may have been left by a crash right after a recovery, with all that is found
pub tells_left : (h : History) (kept : Token → Bool) (blocks : List (List ℕ)) → Tells blocks h
    → ((t : Token) → kept t ≡ true → IsFoundAgain h.buffer blocks (cycle_of h) (used_of h) t)
    → IsLeftOf h kept blocks
tells_left h kept blocks tells all = record {
  count = tells.count;
  passed = λ t k piece. tells.front.last t k piece;
  begun = λ t found.
      let again = again_found h.buffer blocks (cycle_of h) (used_of h) tells.front t found in
      let l = tells.found t again in
      let same : (article : Article)
      → finished_at h.buffer h.begins t.cycle t.first ≡ Some article → article ≡ l.article =
      λ article finished. same_some (sym finished ∙ l.finished) in
      record {
        size = finished_begun h.buffer h.begins t.cycle t.first l.article tells.sizes l.finished
            ∙ ap (λ n. Some (size_of n)) l.octets;
        class = λ article finished. ap (λ (a : Article). a.class) (same article finished)
            ∙ l.class;
        octets = λ article finished. ap (λ (a : Article). length a.text) (same article finished)
            ∙ l.octets;
        text = λ article k finished inside.
            let in_text : k < size_of (length article.text) =
            omega (
              arith,
              inside,
              ap (λ (a : Article). size_of (length a.text))
                  (same article finished),
              ap size_of l.octets,
            ) in
            tells.articles t.cycle t.first k article finished in_text
            (inside_unpassed h t.cycle t.first k article tells.sizes finished in_text again.live);
      };
  live = λ t k. tells.found t (all t k);
  there = λ t k. (all t k).there;
}
