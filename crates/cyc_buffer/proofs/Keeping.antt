-- What a begin does to the marks of a register that agrees with a history.
use Rattle.std.proofs.Common.{◌≡◌, ◌∙◌, ℕ, ◌+◌, ◌<◌, inl, inr, ◌&&◌, nat_lt, nat_le, Bool, true}
use Rattle.std.proofs.Common.{false, refl, ap, arith, cond, List, ◌∷◌, length, None, Some}
use Rattle.std.specs.List.{AllByRecursion}
use Rattle.news_terms.specs.Places.{Buffer, Head, size_of}
use Rattle.cyc_buffer.specs.History.{Article, Begin, head_of, finished_at}
use Rattle.news_terms.specs.Picks.{place_after}
use Rattle.cyc_buffer.specs.BufferState.{IsSized, IsUnpassedBy, Keeps, line_head}
use Rattle.cyc_buffer.specs.History.{History}
use Rattle.cyc_buffer.specs.declared.buffer_state.BufferState.{BufferState}
use Rattle.cyc_buffer.proofs.Places.{IsPlaced, IsPast, placed, passes, held_before}
use Rattle.cyc_buffer.proofs.Places.{held_after}
use Rattle.cyc_buffer.proofs.Finished.{Lies, lies, was_finished, stays_finished}

-- the block of this index of a finished article, which isn't passed
pub record Block (buffer : Buffer) (begins : List Begin) (cycle used : ℕ) (block : ℕ) : Type 0 where
  pub since : ℕ
  pub first : ℕ
  pub index : ℕ
  pub article : Article
  pub finished : finished_at buffer begins since first ≡ Some article
  pub inside : index < size_of (length article.text)
  pub here : first + index ≡ block
  pub held : IsUnpassedBy cycle used since block

-- a head of a buffer, its runs counted as cycles
abbrev pub as_cycles : Buffer → Head → Head
as_cycles buffer head = record { run = buffer.first_cycle + head.run; used = head.used }

-- an article's block isn't at the head or behind it
not_past : (buffer : Buffer) (begins : List Begin) (cycle first index : ℕ) (article : Article)
    → Lies buffer begins cycle first article → index < size_of (length article.text)
    → IsPast (buffer.first_cycle + (head_of buffer.blocks begins).run)
    (head_of buffer.blocks begins).used cycle (first + index) → ⊥
not_past buffer begins cycle first index article l h past = elim l.before [
  | inl p ↦ elim past [
    | inl q ↦ omega (arith, p, q)
    | inr q ↦ omega (arith, p, q.0)
  ]
  | inr p ↦ elim past [
    | inl q ↦ omega (arith, p.0, q)
    | inr q ↦ omega (arith, p.1, q.1, h)
  ]
]

-- a begin's place, in cycles
placed_cycles : (buffer : Buffer) (head : Head) (fresh : Bool) (size : ℕ)
    → IsPlaced buffer.blocks (as_cycles buffer head) size
    (as_cycles buffer (place_after buffer.blocks head fresh size))
placed_cycles buffer head fresh size = elim (placed buffer.blocks head fresh size) [
  | inl p ↦ inl (omega (arith, p.0), p.1, p.2)
  | inr p ↦ inr (omega (arith, p.0), p.1)
]

-- a head
abbrev head_at : ℕ → ℕ → Head
head_at run used = record { run = run; used = used }

-- runs counted as cycles: what is chosen is chosen the same way
chosen_shifted : (buffer : Buffer) (run used : ℕ) (a b : Bool)
    → cond a (head_at (buffer.first_cycle + run + 1) 0)
    (cond b (head_at (buffer.first_cycle + run) used)
    (head_at (buffer.first_cycle + run + 1) 0))
    ≡ as_cycles buffer (cond a (head_at (run + 1) 0)
    (cond b (head_at run used) (head_at (run + 1) 0)))
chosen_shifted buffer run used true b = ap (λ n. head_at n 0) (omega arith)
chosen_shifted buffer run used false true = refl
chosen_shifted buffer run used false false = ap (λ n. head_at n 0) (omega arith)

-- a begin goes to the same place where runs are counted as cycles
pub place_shifted : (buffer : Buffer) (head : Head) (fresh : Bool) (size : ℕ)
    → place_after buffer.blocks (as_cycles buffer head) fresh size
    ≡ as_cycles buffer (place_after buffer.blocks head fresh size)
place_shifted buffer head fresh size =
    chosen_shifted buffer head.run head.used (fresh && nat_lt 0 head.used)
    (nat_le (head.used + size) buffer.blocks)

-- a block of an article that isn't passed by a begin was not passed before it
pub block_before : (buffer : Buffer) (begins : List Begin) (b : Begin) (since first index : ℕ)
    (article : Article)
    → AllByRecursion (IsSized buffer.blocks) begins → b.finished ≡ None
    → finished_at buffer (b ∷ begins) since first ≡ Some article
    → index < size_of (length article.text)
    → (let head = as_cycles buffer (head_of buffer.blocks begins) in
    let at = as_cycles buffer (place_after buffer.blocks (head_of buffer.blocks begins) b.fresh
    b.size) in
    IsUnpassedBy at.run (at.used + b.size) since (first + index)
    → (finished_at buffer begins since first ≡ Some article)
    × IsUnpassedBy head.run head.used since (first + index)
    × (passes buffer.blocks head.run head.used at.run at.used b.size (first + index) ≡ false))
block_before buffer begins b since first index article sized none finished inside held =
    let was = was_finished buffer begins b since first article none finished in
    let l = lies buffer begins since first article sized was in
    elim (held_before buffer.blocks (as_cycles buffer (head_of buffer.blocks begins))
    (as_cycles buffer (place_after buffer.blocks (head_of buffer.blocks begins) b.fresh b.size))
    b.size since (first + index)
    (placed_cycles buffer (head_of buffer.blocks begins) b.fresh b.size)
    (omega (arith, l.within, inside)) held) [
      | inl p ↦ (was, p.0, p.1)
      | inr past ↦ absurd (not_past buffer begins since first index article l inside past)
    ]

-- a block of an article that wasn't passed, and isn't by a begin, is not passed after it
pub block_after : (buffer : Buffer) (begins : List Begin) (b : Begin) (since first index : ℕ)
    (article : Article)
    → AllByRecursion (IsSized buffer.blocks) begins
    → finished_at buffer begins since first ≡ Some article → index < size_of (length article.text)
    → (let head = as_cycles buffer (head_of buffer.blocks begins) in
    let at = as_cycles buffer (place_after buffer.blocks (head_of buffer.blocks begins) b.fresh
    b.size) in
    IsUnpassedBy head.run head.used since (first + index)
    → passes buffer.blocks head.run head.used at.run at.used b.size (first + index) ≡ false
    → (finished_at buffer (b ∷ begins) since first ≡ Some article)
    × IsUnpassedBy at.run (at.used + b.size) since (first + index))
block_after buffer begins b since first index article sized finished inside held unpassed =
    let l = lies buffer begins since first article sized finished in (
      stays_finished buffer begins b since first article sized finished,
      held_after buffer.blocks (as_cycles buffer (head_of buffer.blocks begins))
          (as_cycles buffer (place_after buffer.blocks (head_of buffer.blocks begins) b.fresh
          b.size)) b.size since (first + index)
          (placed_cycles buffer (head_of buffer.blocks begins) b.fresh b.size)
          (omega (arith, l.within, inside)) held unpassed,
    )

-- the head that a register agrees with, as its line has it
pub line_is : (r : BufferState) (h : History) → Keeps r h
    → line_head r.line ≡ as_cycles h.buffer (head_of h.buffer.blocks h.begins)
line_is r h keeps = ap (λ n. head_at n r.line.used) keeps.cycle
    ∙ ap (head_at (h.buffer.first_cycle + (head_of h.buffer.blocks h.begins).run)) keeps.used
