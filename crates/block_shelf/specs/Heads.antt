-- The heads of a started buffer set's buffers are opened (docs/PROTOCOL.md, Clean stop and start).
use Rattle.std.specs.Prelude.{◌≡◌, ℕ, ◌+◌, ◌<◌, Bool, true, List, [], ◌∷◌, ◌++◌, length, min}
use Rattle.std.specs.Prelude.{None, Some, vec_len, vec_capacity}
use Rattle.cyc_block.specs.Store.{block_at}
use Rattle.cyc_block.specs.declared.store.BlockStore.{Ghosts}
use Rattle.cyc_buffer.specs.Agreement.{Agrees, Follows, store_of}
use Rattle.cyc_buffer.specs.Head.{LeavesBlocks, has_open_head, inside, stop_of}
use Rattle.cyc_buffer.specs.History.{History}
use Rattle.cyc_buffer.specs.Stopped.{numbers_of}
use Rattle.cyc_buffer.specs.declared.buffer.Buffer.{Buffer}
use Rattle.cyc_buffer.specs.declared.unopened.Unopened.{Unopened}
use Rattle.news_terms.specs.Courses.{Course}
use Rattle.news_terms.specs.HeadBlocks.{Open, head_image}
use Rattle.relay_model.specs.State.{Kept}
use Rattle.relay_model.specs.Terms.{Terms}
use Rattle.block_shelf.specs.Each.{AreEach}
use Rattle.block_shelf.specs.Keeping.{KeepsTexts}
use Rattle.block_shelf.specs.Leaving.{honestly}
use Rattle.block_shelf.specs.Starting.{WillKeep}
use Rattle.block_shelf.specs.declared.opening.Opening.{Opening}
use Rattle.block_shelf.specs.declared.opening.Opening.TheVariants as states
use Rattle.block_shelf.specs.declared.opening.UnopenedBufferSet.{UnopenedBufferSet}
use Rattle.block_shelf.specs.declared.buffer_set.BufferSet.{BufferSet}
use Rattle.block_shelf.specs.declared.starting.StopFault.TheVariants as faults
use Rattle.block_shelf.specs.declared.starting.Unstarted.{Unstarted}

-- an opened buffer set keeps all that the started one was to keep
abbrev pub KeepsOpened : {S : Type 0} {g : Ghosts S} → UnopenedBufferSet S g
    → BufferSet S g → Type 0
KeepsOpened unopened buffer_set =
    (left : Bool) (w : Terms) (begun : ℕ → Course) (kept : List Kept) (failures : ℕ → ℕ)
    → WillKeep left unopened w begun kept failures
    → KeepsTexts (honestly left) buffer_set w begun kept (λ h. None) failures

-- the buffer is the started one, whose device says, by one call that hasn't failed, that it may
-- change
pub record IsOpenedFrom {S : Type 0} {g : Ghosts S} (b : ℕ) (unopened : Unopened S g)
    (code : Buffer S g)
    : Type 0 where
  pub opened : has_open_head code ≡ true
  pub written : (h : History) → Agrees true (inside unopened) h
      → block_at (g.heads (store_of code)) 0
      ≡ head_image (numbers_of Open (stop_of (inside unopened)) h)
  pub same : Follows (λ h. h) (inside unopened) code
  pub calls : g.calls (store_of code) ≡ g.calls (store_of (inside unopened)) + 1
  pub no_failure : g.failures (store_of code) ≡ g.failures (store_of (inside unopened))
  pub count : length (g.blocks (store_of code)) ≡ length (g.blocks (store_of (inside unopened)))

-- the buffers are the started ones, each with its head open
abbrev pub IsOpened : {S : Type 0} {g : Ghosts S} → UnopenedBufferSet S g → BufferSet S g → Type 0
IsOpened unopened buffer_set =
    AreEach IsOpenedFrom unopened.buffers.items buffer_set.buffers.items

-- the store of a buffer whose head was opened, by one call: it says that the buffer may change
pub record IsLeftOpen {S : Type 0} {g : Ghosts S} (unopened : Unopened S g) (store : S)
    : Type 0 where
  pub written : (h : History) → Agrees true (inside unopened) h
      → block_at (g.heads store) 0
      ≡ head_image (numbers_of Open (stop_of (inside unopened)) h)
  pub calls : g.calls store ≡ g.calls (store_of (inside unopened)) + 1

-- the store of a buffer, where the device of the one at this place failed: it has failed, none
-- before it has, and their heads are open; none behind it was called
pub record IsLeftUnopened {S : Type 0} {g : Ghosts S} (place b : ℕ) (unopened : Unopened S g)
    (store : S)
    : Type 0 where
  pub failed : b ≡ place → g.failures (store_of (inside unopened)) < g.failures store
  pub before : b < place → g.failures store ≡ g.failures (store_of (inside unopened))
  pub opened : b < place → IsLeftOpen unopened store
  pub behind : place < b → store ≡ store_of (inside unopened)

-- the device of a buffer failed, whose number is told; the stores are those of all, in their order
pub record IsUnopened {S : Type 0} {g : Ghosts S} (buffer_set : UnopenedBufferSet S g)
    (refused : Unstarted S)
    : Type 0 where
  pub device : refused.error ≡ faults.Device
  pub place : ℕ
  pub within : place < length buffer_set.buffers.items
  pub told : refused.buffer ≡ Some place
  pub left : AreEach (IsLeftUnopened place) buffer_set.buffers.items refused.stores.items

-- STEP BY STEP

-- the buffer is the started one with its head open, and has its blocks
pub record IsOpenedOf {S : Type 0} {g : Ghosts S} (b : ℕ) (unopened : Unopened S g)
    (code : Buffer S g)
    : Type 0 where
  pub is_from : IsOpenedFrom b unopened code
  pub blocks : LeavesBlocks g (store_of (inside unopened)) (store_of code)

-- how an opening stands after these buffers: each is open, or the one at a place has failed
abbrev pub HasOpened : {S : Type 0} {g : Ghosts S} → (before : List (Unopened S g)) → Opening S g
    → Type 0
HasOpened before (states.Opened buffers room) =
    AreEach IsOpenedOf before buffers.items × (room.items ≡ [])
HasOpened before (states.Failed stores place) =
    (place < length before) × AreEach (IsLeftUnopened place) before stores.items

-- the next buffer's head is opened, where none before it has failed
abbrev pub OpensNext : {S : Type 0} {g : Ghosts S} → Unopened S g → (old new : Opening S g)
    → Type 0
OpensNext {S} {g} unopened old new =
    (before : List (Unopened S g)) → HasOpened before old
    → HasOpened (before ++ unopened ∷ []) new

-- how many buffers and stores it has
abbrev pub opening_count : {S : Type 0} {g : Ghosts S} → Opening S g → ℕ
opening_count (states.Opened buffers room) = vec_len buffers + vec_len room
opening_count (states.Failed stores place) = vec_len stores

-- for how many it has room
abbrev pub opening_room : {S : Type 0} {g : Ghosts S} → Opening S g → ℕ
opening_room (states.Opened buffers room) = min (vec_capacity buffers) (vec_capacity room)
opening_room (states.Failed stores place) = vec_capacity stores
