-- Finished articles that aren't passed lie clear of each other.
use Rattle.std.proofs.Common.{◌≡◌, ℕ, ◌+◌, ◌<◌, ◌≤◌, inl, inr, true, arith, List, [], ◌∷◌}
use Rattle.std.proofs.Common.{length, Some}
use Rattle.std.specs.List.{AllByRecursion}
use Rattle.news_terms.specs.Places.{Buffer, size_of}
use Rattle.cyc_buffer.specs.History.{Article, Begin, head_of, is_at, finished_at}
use Rattle.cyc_buffer.specs.BufferState.{IsSized}
use Rattle.cyc_buffer.proofs.Places.{placed, chosen}
use Rattle.cyc_buffer.proofs.Finished.{Lies, lies, place_of, at_parts, none_is_none}

-- what ends before the head lies before the next begin, where that is in the same cycle
pub before_next : (buffer : Buffer) (earlier : List Begin) (b : Begin) (cycle first next : ℕ)
    (article : Article)
    → Lies buffer earlier cycle first article
    → is_at buffer (place_of buffer earlier b) cycle next ≡ true
    → first + size_of (length article.text) ≤ next
before_next buffer earlier b cycle first next article l e =
    let at = at_parts buffer (place_of buffer earlier b) cycle next e in
    elim (placed buffer.blocks (head_of buffer.blocks earlier) b.fresh b.size) [
      | inl p ↦ elim l.before [
        | inl q ↦ absurd (omega (arith, at.0, p.0, q))
        | inr q ↦ omega (arith, at.1, p.1, q.1)
      ]
      | inr p ↦ elim l.before [
        | inl q ↦ absurd (omega (arith, at.0, p.0, q))
        | inr q ↦ absurd (omega (arith, at.0, p.0, q.0))
      ]
    ]

-- of two finished articles of a cycle the one ends before the other begins
pub apart : (buffer : Buffer) (begins : List Begin) (cycle first next : ℕ) (one other : Article)
    → AllByRecursion (IsSized buffer.blocks) begins
    → finished_at buffer begins cycle first ≡ Some one
    → finished_at buffer begins cycle next ≡ Some other
    → first < next
    → first + size_of (length one.text) ≤ next
apart buffer [] cycle first next one other sized e f before = absurd (none_is_none e)
apart buffer (b ∷ earlier) cycle first next one other sized e f before =
    elim (chosen (is_at buffer (place_of buffer earlier b) cycle first) b.finished
    (finished_at buffer earlier cycle first) (Some one) e) [
      | inl p ↦ elim (chosen (is_at buffer (place_of buffer earlier b) cycle next) b.finished
          (finished_at buffer earlier cycle next) (Some other) f) [
            | inl q ↦
                let here = at_parts buffer (place_of buffer earlier b) cycle first p.0 in
                let there = at_parts buffer (place_of buffer earlier b) cycle next q.0 in
                absurd (omega (arith, here.1, there.1, before))
            | inr q ↦
                let l = lies buffer earlier cycle next other sized.1 q.1 in
                let ends = before_next buffer earlier b cycle next first other l p.0 in
                absurd (omega (arith, ends, l.some, before))
          ]
      | inr p ↦ elim (chosen (is_at buffer (place_of buffer earlier b) cycle next) b.finished
          (finished_at buffer earlier cycle next) (Some other) f) [
            | inl q ↦ before_next buffer earlier b cycle first next one
                (lies buffer earlier cycle first one sized.1 p.1) q.0
            | inr q ↦ apart buffer earlier cycle first next one other sized.1 p.1 q.1 before
          ]
    ]
