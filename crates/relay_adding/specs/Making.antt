-- Buffers that are added to those of a relay that was stopped (docs/PROTOCOL.md, `add-buffer`).
use Rattle.std.specs.Prelude.{◌≡◌, ℕ, ◌+◌, List, length}
use Rattle.cyc_block.specs.declared.store.BlockStore.{Ghosts}
use Rattle.cyc_buffer.specs.History.{new_history}
use Rattle.cyc_buffer.specs.Stopped.{HoldsStopped}
use Rattle.news_terms.specs.HeadBlocks.{head_blocks}
use Rattle.block_shelf.specs.Each.{AreEach}
use Rattle.block_shelf.specs.Filling.{HasFailedAt}
use Rattle.block_shelf.specs.Starting.{buffer_over}
use Rattle.block_shelf.specs.declared.filling.BufferSetError.{BufferSetError}
use Rattle.block_shelf.specs.declared.filling.BufferSetError.TheVariants as errors

-- The store is what a stop of this number leaves of the buffer of this number over a store, in
-- which nothing was begun: what a start takes up again. Its device was called once to make the
-- buffer and once for each head block to stop it, and hasn't failed.
pub record IsAddedOver {S : Type 0} (g : Ghosts S) (stop number : ℕ) (old new : S) : Type 0 where
  pub held : g.honest old → HoldsStopped (g.heads new) (g.blocks new) stop
      (new_history (buffer_over g number old))
  pub honest : g.honest old → g.honest new
  pub count : length (g.blocks new) ≡ length (g.blocks old)
  pub calls : g.calls new ≡ g.calls old + 1 + head_blocks (length (g.blocks old))
  pub no_failure : g.failures new ≡ g.failures old

-- so it is with the buffer at this place behind the first so many
abbrev pub IsAddedBehind : {S : Type 0} → (g : Ghosts S) → (first stop place : ℕ) → (old new : S)
    → Type 0
IsAddedBehind g first stop place old new = IsAddedOver g stop (first + place) old new

-- the stores are what a stop of this number leaves of buffers over these stores in which nothing
-- was begun, whose numbers begin with this one
abbrev pub AreAdded : {S : Type 0} → (g : Ghosts S) → (first stop : ℕ) → (old new : List S) → Type 0
AreAdded g first stop old new = AreEach (IsAddedBehind g first stop) old new

-- the buffer of this number is that over one of these stores, and its device has failed
pub record HasFailedBehind {S : Type 0} (g : Ghosts S) (first : ℕ) (stores : List S) (number : ℕ)
    (store : S) : Type 0 where
  pub place : ℕ
  pub number_is : number ≡ first + place
  pub failed : HasFailedAt g stores place store

-- buffers aren't added where memory was refused, or the device of one of them failed
abbrev pub IsUnadded : {S : Type 0} → (g : Ghosts S) → (first : ℕ) → (stores : List S)
    → BufferSetError S → Type 0
IsUnadded g first stores errors.Memory = Unit {0}
IsUnadded g first stores (errors.Device number store) =
    HasFailedBehind g first stores number store
