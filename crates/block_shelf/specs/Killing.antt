-- What the stores of a buffer set are whose program is killed (docs/PROTOCOL.md, Crashes).
use Rattle.std.specs.Prelude.{◌≡◌, ℕ, true, All, List, Option, Some, map, slice_get}
use Rattle.cyc_block.specs.declared.store.BlockStore.{Ghosts}
use Rattle.cyc_buffer.specs.Agreement.{store_of}
use Rattle.cyc_buffer.specs.declared.buffer.Buffer.{Buffer}
use Rattle.news_terms.specs.Places as places
use Rattle.relay_model.specs.OnRecord.{IsBelow}
use Rattle.relay_model.specs.State.{Kept, State}
use Rattle.relay_model.specs.Terms.{Terms}
use Rattle.block_shelf.specs.Keeping.{KeepsTexts}
use Rattle.block_shelf.specs.Leaving.{AreLeftOf, honestly, is_whole}
use Rattle.block_shelf.specs.Openings.{Opening}
use Rattle.block_shelf.specs.declared.buffer_set.BufferSet.{BufferSet}

-- the stores of all buffers, in their order
abbrev pub stores_of : {S : Type 0} {g : Ghosts S} → BufferSet S g → List S
stores_of {S} {g} buffer_set =
    map (λ (code : Buffer S g). store_of code) buffer_set.buffers.items

-- no device of a buffer has failed
abbrev pub NoneFailed : Terms → (ℕ → ℕ) → Type 0
NoneFailed w failures =
    (b : ℕ) (buffer : places.Buffer) → slice_get w.buffers b ≡ Some buffer
    → failures buffer.number ≡ 0

-- Where no call of a device has failed they may be what a crash has left of each state that the
-- buffer set kept over stores that a crash may leave, with each text that is whole and not gone.
abbrev pub LeavesStores : {S : Type 0} {g : Ghosts S} → BufferSet S g → List S → Type 0
LeavesStores {g = g} old stores =
    (w : Terms) (σ : State) (openings : ℕ → Option Opening) (failures : ℕ → ℕ)
    → KeepsTexts (honestly true) old w σ.begun σ.kept openings failures → NoneFailed w failures
    → All (λ (one : Kept). IsBelow w σ one.token) σ.kept
    → AreLeftOf g stores w σ.begun σ.kept openings (is_whole w σ)
