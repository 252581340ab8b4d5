-- What the buffer set keeps, in the relay's own words: the course of each group, the texts that are
-- whole, the open writes, and how often each device has failed (docs/PROTOCOL.md, Store).
use Rattle.std.specs.Prelude.{◌≡◌, ℕ, Bool, true, List, map, length, Option, None, Some, slice_get}
use Rattle.std.specs.Prelude.{All}
use Rattle.buffer_group.specs.Groups.{KeepsPlaces}
use Rattle.cyc_block.specs.declared.store.BlockStore.{Ghosts}
use Rattle.cyc_buffer.specs.Agreement.{Agrees, store_of}
use Rattle.cyc_buffer.specs.History.{History}
use Rattle.cyc_buffer.specs.declared.buffer.Buffer.{Buffer}
use Rattle.news_terms.specs.Courses.{Course, IsLaid}
use Rattle.news_terms.specs.Fronts.{FitsGroup}
use Rattle.news_terms.specs.Places as places
use Rattle.news_terms.specs.Places.{Extent, Group}
use Rattle.relay_model.specs.State.{Kept}
use Rattle.relay_model.specs.Terms.{Terms}
use Rattle.block_shelf.specs.Histories.{IsHistoryOf}
use Rattle.block_shelf.specs.Leaving.{MayBeLeft, Trust, honestly}
use Rattle.block_shelf.specs.Openings.{Opening, IsOpen, IsBroken, token_in}
use Rattle.news_terms.specs.Settings.{IsBufferAt, AreSound}
use Rattle.block_shelf.specs.declared.buffer_set.PlacedGroup.{PlacedGroup}
use Rattle.block_shelf.specs.declared.buffer_set.BufferSet.{BufferSet}

-- the text of an open write is as long as its token says
abbrev pub HasItsLength : Opening → Type 0
HasItsLength (IsOpen token text written) = length text ≡ token.length
HasItsLength (IsBroken token) = Unit {0}

-- the open write of a group is in one of its buffers
pub record IsOpenIn (groups : List Group) (g : ℕ) (one : Opening) : Type 0 where
  pub index : ℕ
  pub buffer : places.Buffer
  pub is_at : IsBufferAt groups g index buffer
  pub named : buffer.number ≡ (token_in one).buffer
  pub whole : HasItsLength one

-- the code's buffer agrees with a history that is what the relay's state says of this buffer, and
-- its device has failed as often as is said
pub record KeepsBuffer {S : Type 0} {g : Ghosts S} (trusted : Bool) (code : Buffer S g)
    (groups : List Group) (begun : ℕ → Course) (kept : List Kept) (openings : ℕ → Option Opening)
    (failures : ℕ → ℕ) (buffer : places.Buffer)
    : Type 0 where
  pub history : History
  pub is_of_buffer : history.buffer ≡ buffer
  pub agrees : Agrees trusted code history
  pub is_said : IsHistoryOf groups begun kept openings history
  pub failed : failures buffer.number ≡ g.failures (store_of code)

-- the buffer at this place of the buffer set keeps what is said of this buffer
pub record HasBuffer {S : Type 0} {g : Ghosts S} (trusted : Bool) (codes : List (Buffer S g))
    (groups : List Group) (begun : ℕ → Course) (kept : List Kept) (openings : ℕ → Option Opening)
    (failures : ℕ → ℕ) (b : ℕ) (buffer : places.Buffer)
    : Type 0 where
  pub code : Buffer S g
  pub there : slice_get codes b ≡ Some code
  pub keeps : KeepsBuffer trusted code groups begun kept openings failures buffer

-- so it does, and where a crash may leave the stores, it may leave that of this buffer
pub record KeepsAt {S : Type 0} {g : Ghosts S} (trusted : Trust) (codes : List (Buffer S g))
    (groups : List Group) (begun : ℕ → Course) (kept : List Kept) (openings : ℕ → Option Opening)
    (failures : ℕ → ℕ) (b : ℕ) (buffer : places.Buffer)
    : Type 0 where
  pub has : HasBuffer trusted.honest codes groups begun kept openings failures b buffer
  pub left : trusted.honest ≡ true → trusted.left ≡ true
      → MayBeLeft g (store_of has.code) has.keeps.history

-- a crash may leave the stores of these buffers, in which no write is open
abbrev pub AreLeft : {S : Type 0} {g : Ghosts S} → (codes : List (Buffer S g)) → Terms
    → (ℕ → Course) → List Kept → (ℕ → ℕ) → Type 0
AreLeft codes w begun kept failures =
    (b : ℕ) (buffer : places.Buffer) → slice_get w.buffers b ≡ Some buffer
    → KeepsAt (honestly true) codes w.groups begun kept (λ h. None) failures b buffer

-- the code's group is where the group is on this course, and has the numbers of its buffers
pub record KeepsPlacedGroup (code : PlacedGroup) (group : Group) (begun : Course) : Type 0 where
  pub position : KeepsPlaces code.group group begun
  pub numbers : code.numbers.items ≡ map (λ (buffer : places.Buffer). buffer.number) group.buffers

-- the group at this place of the buffer set keeps what is said of this group
pub record HasPlacedGroup (codes : List PlacedGroup) (begun : Course) (h : ℕ) (group : Group)
    : Type 0 where
  pub code : PlacedGroup
  pub there : slice_get codes h ≡ Some code
  pub keeps : KeepsPlacedGroup code group begun

-- The buffer set keeps, with these buffers and groups, these courses, texts, open writes and counts
-- of failures; where its stores are trusted, they are honest, or also such as a crash may leave.
pub record KeepsTexts {S : Type 0} {g : Ghosts S} (trusted : Trust)
    (buffer_set : BufferSet S g) (w : Terms)
    (begun : ℕ → Course) (kept : List Kept) (openings : ℕ → Option Opening) (failures : ℕ → ℕ)
    : Type 0 where
  -- buffers and groups are sound, and the buffers numbered in their order
  pub sound : AreSound w.buffers w.groups
  pub numbered : (b : ℕ) (buffer : places.Buffer) → slice_get w.buffers b ≡ Some buffer
      → buffer.number ≡ b
  -- each article begun fits each buffer of its group
  pub fit : (h : ℕ) (group : Group) → slice_get w.groups h ≡ Some group
      → All (λ (one : Extent). FitsGroup group one.size) (begun h).articles
  -- each lies in one of them, at its front or past it, and the turn is that of one of them
  pub laid : (h : ℕ) (group : Group) → slice_get w.groups h ≡ Some group
      → IsLaid group (begun h)
  -- each open write is in a buffer of its group
  pub opened : (h : ℕ) (one : Opening) → openings h ≡ Some one → IsOpenIn w.groups h one
  -- each buffer and each group of the buffer set keeps what is said of it
  pub count : length buffer_set.buffers.items ≡ length w.buffers
  pub buffers : (b : ℕ) (buffer : places.Buffer) → slice_get w.buffers b ≡ Some buffer
      → KeepsAt trusted buffer_set.buffers.items w.groups begun kept openings failures b buffer
  pub placed_group_count : length buffer_set.placed_groups.items ≡ length w.groups
  pub placed_groups : (h : ℕ) (group : Group) → slice_get w.groups h ≡ Some group
      → HasPlacedGroup buffer_set.placed_groups.items (begun h) h group
