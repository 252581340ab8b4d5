-- The courses that groups are found on: each is laid, and has of each of its buffers just what was
-- found there.
use Rattle.std.proofs.Common.{◌≡◌, ◌∙◌, ℕ, zero, suc, refl, sym, ap, arith, subst, List}
use Rattle.std.proofs.Common.{[], ◌∷◌, ◌++◌, All, map, Some, slice_get}
use Rattle.std.proofs.Common.{append-nil}
use Rattle.std.proofs.lemmas.List.Elements.{All-append, All-nil, filter-append}
use Rattle.std.proofs.lemmas.Option.{none-some, same_Some}
use Rattle.std.specs.List.{AllByRecursion, filter}
use Rattle.cyc_buffer.specs.BufferState.{IsSized}
use Rattle.cyc_buffer.specs.History.{Begin, asked}
use Rattle.news_terms.specs.Courses.{LieInOrder, LiesInGroup, is_in_buffer}
use Rattle.news_terms.specs.Places.{Buffer, Extent, Group}
use Rattle.buffer_repair.proofs.LeftExtents.{none_of_other, order_append, own_all, own_order}
use Rattle.buffer_repair.proofs.LeftExtents.{own_sizes, own_within}
use Rattle.buffer_repair.specs.Remains.{Remains, extents_at, extents_in, extents_left}
use Rattle.buffer_repair.specs.Remains.{history_left}

-- what is left of a buffer stands at its number, and each of its begins is of a size that it has
-- room for
pub record Stands (all : List Remains) (buffer : Buffer) : Type 0 where
  pub left : Remains
  pub there : slice_get all buffer.number ≡ Some left
  pub same : left.buffer ≡ buffer
  pub sized : AllByRecursion (IsSized left.buffer.blocks) (history_left left).begins

-- so of each of these
abbrev pub AllStand : List Remains → List Buffer → Type 0
AllStand all buffers =
    (i : ℕ) (buffer : Buffer) → slice_get buffers i ≡ Some buffer → Stands all buffer

-- each of these buffers has a number of its own
abbrev pub AreNumbered : List Buffer → Type 0
AreNumbered buffers =
    (i j : ℕ) (a b : Buffer) → slice_get buffers i ≡ Some a → slice_get buffers j ≡ Some b
    → a.number ≡ b.number → i ≡ j

-- so has each behind the first, another than it
numbered_later : (first : Buffer) (later : List Buffer) → AreNumbered (first ∷ later)
    → AreNumbered later
numbered_later first later own i j a b at_i at_j same =
    omega (arith, own (suc i) (suc j) a b at_i at_j same)

first_apart : (first : Buffer) (later : List Buffer) → AreNumbered (first ∷ later)
    → (i : ℕ) (b : Buffer) → slice_get later i ≡ Some b → first.number ≡ b.number → ⊥
first_apart first later own i b at same =
    omega (arith, own zero (suc i) first b refl at same)

module _ (all : List Remains) where
  -- what was begun in a buffer that stands there
  at_is : {buffer : Buffer} (s : Stands all buffer)
      → extents_at (slice_get all buffer.number) ≡ extents_left s.left
  at_is s = ap extents_at s.there

  -- it lies in it
  at_own : {buffer : Buffer} → Stands all buffer
      → filter (is_in_buffer buffer) (extents_at (slice_get all buffer.number))
      ≡ extents_at (slice_get all buffer.number)
  at_own {buffer} s =
      rw (at_is s)
      (subst (λ (b : Buffer). filter (is_in_buffer b) (extents_left s.left) ≡ extents_left s.left)
      s.same (own_all s.left.buffer (map asked (history_left s.left).begins)))

  -- and in no other
  at_other : {buffer : Buffer} → Stands all buffer → (other : Buffer)
      → (buffer.number ≡ other.number → ⊥)
      → filter (is_in_buffer other) (extents_at (slice_get all buffer.number)) ≡ []
  at_other {buffer} s other apart =
      rw (at_is s)
      (none_of_other s.left.buffer other
      (λ e. apart (ap (λ (b : Buffer). b.number) (sym s.same) ∙ e))
      (map asked (history_left s.left).begins))

  -- a buffer that is none of these has nothing of what was begun in them
  none_in : (buffers : List Buffer) → AllStand all buffers → (other : Buffer)
      → ((i : ℕ) (b : Buffer) → slice_get buffers i ≡ Some b → b.number ≡ other.number → ⊥)
      → filter (is_in_buffer other) (extents_in all buffers) ≡ []
  none_in [] stand other apart = refl
  none_in (first ∷ later) stand other apart =
      filter-append (is_in_buffer other) (extents_at (slice_get all first.number))
      (extents_in all later)
      ∙ ap (λ front. front ++ filter (is_in_buffer other) (extents_in all later))
      (at_other (stand zero first refl) other (apart zero first refl))
      ∙ none_in later (λ i b at. stand (suc i) b at) other (λ i b at. apart (suc i) b at)

  -- of what was begun in these buffers, each has its own
  pub own_in : (buffers : List Buffer) → AllStand all buffers → AreNumbered buffers → (i : ℕ)
      (buffer : Buffer) → slice_get buffers i ≡ Some buffer
      → filter (is_in_buffer buffer) (extents_in all buffers)
      ≡ extents_at (slice_get all buffer.number)
  own_in [] stand own i buffer at = absurd (none-some buffer at)
  own_in (first ∷ later) stand own zero buffer at =
      let same : first ≡ buffer = same_Some first buffer at in
      subst (λ (b : Buffer). filter (is_in_buffer b) (extents_in all (first ∷ later))
      ≡ extents_at (slice_get all b.number)) same
      (filter-append (is_in_buffer first) (extents_at (slice_get all first.number))
      (extents_in all later)
      ∙ ap (λ front. front ++ filter (is_in_buffer first) (extents_in all later))
      (at_own (stand zero first refl))
      ∙ ap (λ rest. extents_at (slice_get all first.number) ++ rest)
      (none_in later (λ i b is. stand (suc i) b is) first
      (λ i b is e. first_apart first later own i b is (sym e)))
      ∙ append-nil (extents_at (slice_get all first.number)))
  own_in (first ∷ later) stand own (suc i) buffer at =
      filter-append (is_in_buffer buffer) (extents_at (slice_get all first.number))
      (extents_in all later)
      ∙ ap (λ front. front ++ filter (is_in_buffer buffer) (extents_in all later))
      (at_other (stand zero first refl) buffer (first_apart first later own i buffer at))
      ∙ own_in later (λ j b is. stand (suc j) b is) (numbered_later first later own) i buffer at

  -- they lie in order
  pub order_in : (before : List Extent) (buffers : List Buffer) → AllStand all buffers
      → AreNumbered buffers
      → ((i : ℕ) (b : Buffer) → slice_get buffers i ≡ Some b
      → filter (is_in_buffer b) before ≡ [])
      → LieInOrder before (extents_in all buffers)
  order_in before [] stand own none = tt
  order_in before (first ∷ later) stand own none =
      let s = stand zero first refl in
      let here = extents_at (slice_get all first.number) in
      order_append before here (extents_in all later)
      (rw (at_is s) (own_order s.left.buffer before
      (rw s.same (none zero first refl)) (history_left s.left).begins s.sized))
      (order_in (before ++ here) later (λ i b is. stand (suc i) b is)
      (numbered_later first later own)
      (λ i b is.
      filter-append (is_in_buffer b) before here
      ∙ ap (λ front. front ++ filter (is_in_buffer b) here) (none (suc i) b is)
      ∙ at_other s b (first_apart first later own i b is)))

  -- each lies in a group that has these buffers
  pub within_in : (group : Group) (buffers : List Buffer) → AllStand all buffers
      → ((i : ℕ) (b : Buffer) → slice_get buffers i ≡ Some b
      → (k : ℕ) × (slice_get group.buffers k ≡ Some b))
      → All (LiesInGroup group) (extents_in all buffers)
  within_in group [] stand among = All-nil (LiesInGroup group)
  within_in group (first ∷ later) stand among =
      let s = stand zero first refl in
      let k = among zero first refl in
      All-append (LiesInGroup group) (extents_at (slice_get all first.number))
      (extents_in all later)
      (rw (at_is s) (own_within s.left.buffer group k.0 (k.1 ∙ ap Some (sym s.same))
      (history_left s.left).begins s.sized))
      (within_in group later (λ i b is. stand (suc i) b is) (λ i b is. among (suc i) b is))

  -- what holds of the sizes of each buffer's begins holds of those of all
  pub sizes_in : (P : ℕ → Type 0) (buffers : List Buffer) → AllStand all buffers
      → ((i : ℕ) (b : Buffer) (r : Remains) → slice_get buffers i ≡ Some b
      → slice_get all b.number ≡ Some r → r.buffer ≡ b
      → AllByRecursion (λ (begin : Begin). P begin.size) (history_left r).begins)
      → All (λ (one : Extent). P one.size) (extents_in all buffers)
  sizes_in P [] stand each = All-nil (λ (one : Extent). P one.size)
  sizes_in P (first ∷ later) stand each =
      let s = stand zero first refl in
      All-append (λ (one : Extent). P one.size) (extents_at (slice_get all first.number))
      (extents_in all later)
      (rw (at_is s) (own_sizes s.left.buffer P (history_left s.left).begins
      (each zero first s.left refl s.there s.same)))
      (sizes_in P later (λ i b is. stand (suc i) b is) (λ i b r is. each (suc i) b r is))

  -- what holds of each article of each buffer holds of all
  pub each_in : (P : Extent → Type 0) (buffers : List Buffer) → AllStand all buffers
      → ((i : ℕ) (b : Buffer) (r : Remains) → slice_get buffers i ≡ Some b
      → slice_get all b.number ≡ Some r → All P (extents_left r))
      → All P (extents_in all buffers)
  each_in P [] stand each = All-nil P
  each_in P (first ∷ later) stand each =
      let s = stand zero first refl in
      All-append P (extents_at (slice_get all first.number)) (extents_in all later)
      (rw (at_is s) (each zero first s.left refl s.there))
      (each_in P later (λ i b is. stand (suc i) b is) (λ i b r is. each (suc i) b r is))
