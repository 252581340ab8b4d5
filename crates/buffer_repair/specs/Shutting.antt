-- Buffers that were found again are shut (docs/PROTOCOL.md, Crashes, Clean stop and start).
use Rattle.std.specs.Prelude.{◌≡◌, ◌⊎◌, ℕ, ◌+◌, ◌<◌, Bool, true, List, [], ◌∷◌, ◌++◌, length}
use Rattle.std.specs.Prelude.{Option, None, Some}
use Rattle.cyc_block.specs.Store.{block_at}
use Rattle.cyc_block.specs.declared.store.BlockStore.{Ghosts}
use Rattle.cyc_buffer.specs.Agreement.{Agrees}
use Rattle.cyc_buffer.specs.Crash.{IsLeftOf}
use Rattle.cyc_buffer.specs.Head.{LeavesBlocks}
use Rattle.cyc_buffer.specs.History.{History}
use Rattle.cyc_buffer.specs.Stopped.{HoldsStopped, TellsStarts}
use Rattle.cyc_buffer.specs.declared.starting.Started.{Started}
use Rattle.news_terms.specs.Courses.{Course}
use Rattle.news_terms.specs.HeadBlocks.{head_blocks}
use Rattle.news_terms.specs.Token.{Token}
use Rattle.relay_model.specs.State.{Kept}
use Rattle.relay_model.specs.Terms.{Terms}
use Rattle.block_shelf.specs.Each.{AreEach}
use Rattle.block_shelf.specs.Stopping.{HoldsLeft, HoldsTexts}
use Rattle.block_shelf.specs.declared.starting.StopFault.TheVariants as faults
use Rattle.block_shelf.specs.declared.starting.Unstarted.{Unstarted}
use Rattle.buffer_repair.specs.Parts.{buffer_in, store_in}
use Rattle.buffer_repair.specs.Keeping.{KeepsFound}
use Rattle.buffer_repair.specs.declared.found_set.FoundBufferSet.{FoundBufferSet}

-- the stores hold, as stopped under this number, all that the buffers kept
abbrev pub HoldsFound : {S : Type 0} {g : Ghosts S} → (stop : ℕ) → FoundBufferSet S g → List S
    → Type 0
HoldsFound {g = g} stop found_set stores =
    (w : Terms) (begun : ℕ → Course) (kept : List Kept) (failures : ℕ → ℕ)
    → KeepsFound found_set w begun kept failures
    → HoldsTexts g stores stop w begun kept failures

-- and a crash may leave them
abbrev pub HoldsFoundLeft : {S : Type 0} {g : Ghosts S} → (stop : ℕ) → FoundBufferSet S g → List S
    → Type 0
HoldsFoundLeft {g = g} stop found_set stores =
    (w : Terms) (begun : ℕ → Course) (kept : List Kept) (failures : ℕ → ℕ)
    → KeepsFound found_set w begun kept failures
    → HoldsLeft g stores stop w begun kept failures

-- what a crash may have left of a store before, it may leave of it now
abbrev pub StaysLeft : {S : Type 0} (g : Ghosts S) → (old new : S) → Type 0
StaysLeft g old new =
    g.honest old → (h : History) (kept : Token → Bool) → IsLeftOf h kept (g.blocks old)
    → IsLeftOf h kept (g.blocks new)

-- a store is what the shutting of a buffer leaves, by one call for each head block
pub record IsShutFound {S : Type 0} {g : Ghosts S} (stop b : ℕ) (one : Started S g) (store : S)
    : Type 0 where
  pub held : (h : History) → Agrees true (buffer_in one) h
      → HoldsStopped (g.heads store) (g.blocks store) stop h
  pub rest : LeavesBlocks g (store_in one) store
  pub left : StaysLeft g (store_in one) store
  pub calls : g.calls store
      ≡ g.calls (store_in one) + head_blocks (length (g.blocks (store_in one)))
  pub no_failure : g.failures store ≡ g.failures (store_in one)

-- the stores are what the shutting of each buffer leaves, in the order of the buffers
abbrev pub AreShutFound : {S : Type 0} {g : Ghosts S} → (stop : ℕ) → FoundBufferSet S g → List S
    → Type 0
AreShutFound stop found_set stores = AreEach (IsShutFound stop) found_set.found.items stores

-- head block 0 of a store holds what it held, or its bitmap is there
abbrev pub IsInOrderOver : {S : Type 0} {g : Ghosts S} → Started S g → (store : S) → Type 0
IsInOrderOver {g = g} one store =
    (block_at (g.heads store) 0 ≡ block_at (g.heads (store_in one)) 0)
    ⊎ ((h : History) → Agrees true (buffer_in one) h → TellsStarts (g.heads store) h)

-- The store of a buffer, where the device of the one at this place failed: each before it is shut,
-- none behind it was called, and its own blocks stay, of which a crash leaves what it left before.
pub record IsLeftFound {S : Type 0} {g : Ghosts S} (stop place b : ℕ) (one : Started S g)
    (store : S)
    : Type 0 where
  pub rest : LeavesBlocks g (store_in one) store
  pub left : StaysLeft g (store_in one) store
  pub before : b < place → IsShutFound stop b one store
  pub failed : b ≡ place → g.failures (store_in one) < g.failures store
  pub order : b ≡ place → g.honest (store_in one) → IsInOrderOver one store
  pub behind : place < b → store ≡ store_in one

-- the device of a buffer failed, whose number is told; the stores are those of all, in their order
pub record IsUnshutFound {S : Type 0} {g : Ghosts S} (stop : ℕ) (found_set : FoundBufferSet S g)
    (refused : Unstarted S)
    : Type 0 where
  pub device : refused.error ≡ faults.Device
  pub place : ℕ
  pub within : place < length found_set.found.items
  pub told : refused.buffer ≡ Some place
  pub each : AreEach (IsLeftFound stop place) found_set.found.items refused.stores.items

-- STEP BY STEP

-- the stores are those of the buffers so far: each is shut, or the one at a place has failed
abbrev pub AreShutTo : {S : Type 0} {g : Ghosts S} → (stop : ℕ) → (before : List (Started S g))
    → (failed : Option ℕ) → List S → Type 0
AreShutTo stop before None stores = AreEach (IsShutFound stop) before stores
AreShutTo stop before (Some place) stores =
    (place < length before) × AreEach (IsLeftFound stop place) before stores

-- one buffer more is shut, or only gives its store
abbrev pub ShutsNext : {S : Type 0} {g : Ghosts S} → (stop : ℕ) → Started S g
    → (failed : Option ℕ) → (old : List S) → (later : Option ℕ) → (new : List S) → Type 0
ShutsNext {S} {g} stop one failed old later new =
    (before : List (Started S g)) → AreShutTo stop before failed old
    → AreShutTo stop (before ++ one ∷ []) later new
