-- What a stop leaves of a buffer set on its stores, and the positions of its groups
-- (docs/PROTOCOL.md, Clean stop and start).
use Rattle.std.specs.Prelude.{◌≡◌, ◌≢◌, ℕ, ◌+◌, ◌^◌, ◌<◌, ◌≤◌, true, false, List, [], ◌∷◌, ◌++◌}
use Rattle.std.specs.Prelude.{length, All, Option, None, Some, slice_get, Result, Ok, Err}
use Rattle.std.specs.Global.{Vec}
use Rattle.cyc_block.specs.declared.store.BlockStore.{Ghosts}
use Rattle.cyc_buffer.specs.Agreement.{Agrees, store_of}
use Rattle.cyc_buffer.specs.Head.{LeavesBlocks, is_busy}
use Rattle.cyc_buffer.specs.History.{History}
use Rattle.cyc_buffer.specs.Stopped.{HoldsStopped}
use Rattle.cyc_buffer.specs.declared.buffer.Buffer.{Buffer}
use Rattle.news_terms.specs.Courses.{Course, IsLaid, position_in}
use Rattle.news_terms.specs.Fronts.{FitsGroup}
use Rattle.news_terms.specs.HeadBlocks.{head_blocks}
use Rattle.news_terms.specs.Places as places
use Rattle.news_terms.specs.Places.{Extent, Group}
use Rattle.news_terms.specs.Settings.{AreSound}
use Rattle.relay_model.specs.State.{Kept}
use Rattle.relay_model.specs.Terms.{Terms}
use Rattle.block_shelf.specs.Each.{AreEach}
use Rattle.block_shelf.specs.Histories.{IsHistoryOf}
use Rattle.block_shelf.specs.Keeping.{KeepsPlacedGroup, KeepsTexts}
use Rattle.block_shelf.specs.Leaving.{MayBeLeft, Trust, honestly}
use Rattle.block_shelf.specs.Openings.{Opening}
use Rattle.block_shelf.specs.declared.buffer_set.PlacedGroup.{PlacedGroup}
use Rattle.block_shelf.specs.declared.buffer_set.BufferSet.{BufferSet}
use Rattle.block_shelf.specs.declared.stopping.Unshut.{Unshut}
use Rattle.block_shelf.specs.declared.stopping.Unshut.TheVariants as answers

-- THE POSITIONS

-- the positions are those of the groups on these courses
pub record ArePositions (groups : List Group) (begun : ℕ → Course) (positions : List ℕ) : Type 0
  where
    pub count : length positions ≡ length groups
    pub each : (h : ℕ) (group : Group) → slice_get groups h ≡ Some group
        → slice_get positions h ≡ Some (position_in group (begun h)).index

-- the position is that of the placed group's group, which has no more buffers than there are
-- numbers
abbrev pub TellsPosition : ℕ → PlacedGroup → (position : ℕ) → Type 0
TellsPosition b placed_group position =
    (group : Group) (begun : Course) → KeepsPlacedGroup placed_group group begun
    → length group.buffers ≤ 2 ^ 8 → position ≡ (position_in group begun).index

-- these are the positions of the buffer set's groups
abbrev pub TellsPositions : {S : Type 0} {g : Ghosts S} → BufferSet S g → List ℕ → Type 0
TellsPositions buffer_set positions =
    (trusted : Trust) (w : Terms) (begun : ℕ → Course) (kept : List Kept)
    (openings : ℕ → Option Opening) (failures : ℕ → ℕ)
    → KeepsTexts trusted buffer_set w begun kept openings failures
    → ArePositions w.groups begun positions

-- THE STORES

-- the store at this place holds, as stopped under this number, a history that is what the relay's
-- state says of this buffer; the store is honest, and its device has failed as often as is said
pub record HoldsBuffer {S : Type 0} (g : Ghosts S) (stores : List S) (stop : ℕ)
    (groups : List Group) (begun : ℕ → Course) (kept : List Kept) (failures : ℕ → ℕ) (b : ℕ)
    (buffer : places.Buffer)
    : Type 0 where
  pub store : S
  pub there : slice_get stores b ≡ Some store
  pub honest : g.honest store
  pub history : History
  pub is_of_buffer : history.buffer ≡ buffer
  pub held : HoldsStopped (g.heads store) (g.blocks store) stop history
  pub is_said : IsHistoryOf groups begun kept (λ h. None) history
  pub failed : failures buffer.number ≡ g.failures store

-- so it does, and a crash may leave the store
pub record HoldsLeftAt {S : Type 0} (g : Ghosts S) (stores : List S) (stop : ℕ)
    (groups : List Group) (begun : ℕ → Course) (kept : List Kept) (failures : ℕ → ℕ) (b : ℕ)
    (buffer : places.Buffer)
    : Type 0 where
  pub holds : HoldsBuffer g stores stop groups begun kept failures b buffer
  pub left : MayBeLeft g holds.store holds.history

-- The stores hold, as stopped under this number, with these buffers and groups, these courses,
-- texts and counts of failures. No write is open. It is said of honest stores alone.
pub record HoldsTexts {S : Type 0} (g : Ghosts S) (stores : List S) (stop : ℕ) (w : Terms)
    (begun : ℕ → Course) (kept : List Kept) (failures : ℕ → ℕ)
    : Type 0 where
  pub sound : AreSound w.buffers w.groups
  pub numbered : (b : ℕ) (buffer : places.Buffer) → slice_get w.buffers b ≡ Some buffer
      → buffer.number ≡ b
  pub fit : (h : ℕ) (group : Group) → slice_get w.groups h ≡ Some group
      → All (λ (one : Extent). FitsGroup group one.size) (begun h).articles
  pub laid : (h : ℕ) (group : Group) → slice_get w.groups h ≡ Some group
      → IsLaid group (begun h)
  pub count : length stores ≡ length w.buffers
  pub buffers : (b : ℕ) (buffer : places.Buffer) → slice_get w.buffers b ≡ Some buffer
      → HoldsBuffer g stores stop w.groups begun kept failures b buffer

-- a crash may leave the stores, as what was stopped on them is
abbrev pub HoldsLeft : {S : Type 0} → Ghosts S → (stores : List S) → (stop : ℕ) → Terms
    → (ℕ → Course) → List Kept → (ℕ → ℕ) → Type 0
HoldsLeft g stores stop w begun kept failures =
    (b : ℕ) (buffer : places.Buffer) → slice_get w.buffers b ≡ Some buffer
    → HoldsLeftAt g stores stop w.groups begun kept failures b buffer

-- the stores hold all that the buffer set kept over honest stores, where no write was open
abbrev pub HoldsKept : {S : Type 0} {g : Ghosts S} → (stop : ℕ) → BufferSet S g → List S → Type 0
HoldsKept {g = g} stop buffer_set stores =
    (w : Terms) (begun : ℕ → Course) (kept : List Kept) (failures : ℕ → ℕ)
    → KeepsTexts (honestly false) buffer_set w begun kept (λ h. None) failures
    → HoldsTexts g stores stop w begun kept failures

-- a crash may leave them, where it may have left those of the buffer set
abbrev pub HoldsKeptLeft : {S : Type 0} {g : Ghosts S} → (stop : ℕ) → BufferSet S g → List S
    → Type 0
HoldsKeptLeft {g = g} stop buffer_set stores =
    (w : Terms) (begun : ℕ → Course) (kept : List Kept) (failures : ℕ → ℕ)
    → KeepsTexts (honestly true) buffer_set w begun kept (λ h. None) failures
    → HoldsLeft g stores stop w begun kept failures

-- a store is what the stop of a buffer leaves
pub record IsShutOver {S : Type 0} {g : Ghosts S} (stop b : ℕ) (code : Buffer S g) (store : S)
    : Type 0 where
  pub held : (h : History) → Agrees true code h
      → HoldsStopped (g.heads store) (g.blocks store) stop h
  pub honest : g.honest (store_of code) → g.honest store
  pub count : length (g.blocks store) ≡ length (g.blocks (store_of code))
  -- the device is called once for each head block, and has not failed
  pub calls : g.calls store
      ≡ g.calls (store_of code) + head_blocks (length (g.blocks (store_of code)))
  pub no_failure : g.failures store ≡ g.failures (store_of code)

-- the stores are what the stop of each buffer leaves, in the order of the buffers
abbrev pub AreShut : {S : Type 0} {g : Ghosts S} → (stop : ℕ) → BufferSet S g → List S → Type 0
AreShut stop buffer_set stores = AreEach (IsShutOver stop) buffer_set.buffers.items stores

-- THE REFUSALS

-- no write is open in a buffer of the buffer set
abbrev pub AreIdle : {S : Type 0} {g : Ghosts S} → BufferSet S g → Type 0
AreIdle {S} {g} buffer_set =
    (b : ℕ) (code : Buffer S g) → slice_get buffer_set.buffers.items b ≡ Some code
    → is_busy code ≡ false

-- a write is open in a buffer, so that there is no state without an open write that the buffer set
-- keeps
pub record IsBusyBufferSet {S : Type 0} {g : Ghosts S} (buffer_set : BufferSet S g) : Type 0 where
  pub at : ℕ
  pub code : Buffer S g
  pub there : slice_get buffer_set.buffers.items at ≡ Some code
  pub busy : is_busy code ≡ true
  pub writing : (trusted : Trust) (w : Terms) (begun : ℕ → Course) (kept : List Kept)
      (failures : ℕ → ℕ) → KeepsTexts trusted buffer_set w begun kept (λ h. None) failures → ⊥

-- the store of a buffer, where the stop of the buffer at this place was refused: it stays honest
-- and keeps the number of its blocks, and the device of the one at this place alone has failed
pub record IsLeftOver {S : Type 0} {g : Ghosts S} (place b : ℕ) (code : Buffer S g) (store : S)
    : Type 0 where
  pub honest : g.honest (store_of code) → g.honest store
  pub count : length (g.blocks store) ≡ length (g.blocks (store_of code))
  pub failed : b ≡ place → g.failures (store_of code) < g.failures store
  pub others : b ≢ place → g.failures store ≡ g.failures (store_of code)

-- the device of the buffer of this number failed; the stores are those of all buffers, in their
-- order
pub record IsShutPartly {S : Type 0} {g : Ghosts S} (old : BufferSet S g) (number : ℕ)
    (stores : List S)
    : Type 0 where
  pub place : ℕ
  pub within : place < length old.buffers.items
  pub told : place < 2 ^ 8 → number ≡ place
  pub left : AreEach (IsLeftOver place) old.buffers.items stores

-- why a buffer set isn't stopped: as Busy or for want of memory it comes back as it was
abbrev pub IsUnshut : {S : Type 0} {g : Ghosts S} → BufferSet S g → Unshut S g → Type 0
IsUnshut old (answers.Busy back) = (back ≡ old) × IsBusyBufferSet old
IsUnshut old (answers.Memory back) = back ≡ old
IsUnshut old (answers.Device number stores) = IsShutPartly old number stores.items

-- the answer is Busy
abbrev pub IsBusyAnswer : {S : Type 0} {g : Ghosts S} → Result (Vec S) (Unshut S g) → Type 0
IsBusyAnswer (Ok stores) = ⊥
IsBusyAnswer (Err (answers.Busy back)) = Unit {0}
IsBusyAnswer (Err (answers.Memory back)) = ⊥
IsBusyAnswer (Err (answers.Device number stores)) = ⊥

-- STEP BY STEP

-- no write is open in the buffers before this place
abbrev pub AreIdleTo : {S : Type 0} {g : Ghosts S} → BufferSet S g → (place : ℕ) → Type 0
AreIdleTo {S} {g} buffer_set place =
    (b : ℕ) (code : Buffer S g) → b < place → slice_get buffer_set.buffers.items b ≡ Some code
    → is_busy code ≡ false

-- the stores are those of the buffers so far: each is stopped, or the one at a place has failed
abbrev pub IsStopped : {S : Type 0} {g : Ghosts S} → (stop : ℕ) → (before : List (Buffer S g))
    → (failed : Option ℕ) → List S → Type 0
IsStopped stop before None stores = AreEach (IsShutOver stop) before stores
IsStopped stop before (Some place) stores =
    (place < length before) × AreEach (IsLeftOver place) before stores

-- the store is that of the buffer but for what its head blocks hold
abbrev pub IsStoreOf : {S : Type 0} {g : Ghosts S} → (b : ℕ) → Buffer S g → (store : S) → Type 0
IsStoreOf {g = g} b code store = LeavesBlocks g (store_of code) store

-- one store more
abbrev pub LeavesNext : {S : Type 0} {g : Ghosts S} → Buffer S g → (old new : List S) → Type 0
LeavesNext {S} {g} code old new =
    (before : List (Buffer S g)) → AreEach IsStoreOf before old
    → AreEach IsStoreOf (before ++ code ∷ []) new

-- one buffer more, in which no write is open
abbrev pub StopsNext : {S : Type 0} {g : Ghosts S} → (stop : ℕ) → Buffer S g
    → (failed : Option ℕ) → (old : List S) → (later : Option ℕ) → (new : List S) → Type 0
StopsNext {S} {g} stop code failed old later new =
    (before : List (Buffer S g)) → is_busy code ≡ false → IsStopped stop before failed old
    → IsStopped stop (before ++ code ∷ []) later new
