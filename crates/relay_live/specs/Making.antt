-- What a relay's threads share, by how much of it there is.
use Rattle.std.specs.Prelude.{◌≡◌, ℕ, Option, length}
use Rattle.cyc_block.specs.declared.store.BlockStore as blocks
use Rattle.live_store.specs.declared.record.StorePremises as store_premises
use Rattle.relay_live.specs.BufferLocks.{count_in}
use Rattle.relay_live.specs.declared.alone.Alone.{Alone}
use Rattle.relay_live.specs.declared.keeper.Keeper.{Keeper}
use Rattle.relay_live.specs.declared.register_ref.RegisterRef as register_ref
use Rattle.relay_live.specs.declared.shared.Shared.{Shared}
use Rattle.post_history.specs.declared.book.Naming as naming

-- how many buffers there are
abbrev pub buffers_in : {S J L : Type 0} {s : blocks.Ghosts S}
    {j : store_premises.Ghosts J} {n : naming.Ghosts J}
    → Shared S J L s j n → ℕ
buffers_in shared = count_in shared.buffers

-- how many groups there are
abbrev pub groups_in : {S J L : Type 0} {s : blocks.Ghosts S}
    {j : store_premises.Ghosts J} {n : naming.Ghosts J}
    → Shared S J L s j n → ℕ
groups_in shared = length shared.placed_groups.items

-- how many feeds there are
abbrev pub feeds_in : {S J L : Type 0} {s : blocks.Ghosts S}
    {j : store_premises.Ghosts J} {n : naming.Ghosts J}
    → Shared S J L s j n → ℕ
feeds_in shared = shared.feeds

-- for how many seconds ids are remembered, where they aren't for good
abbrev pub remember_in : {S J L : Type 0} {s : blocks.Ghosts S}
    {j : store_premises.Ghosts J} {n : naming.Ghosts J}
    → Shared S J L s j n → Option ℕ
remember_in shared = shared.remember

-- the number of the last stop; before the first it is 0
abbrev pub last_stop : {S J L : Type 0} {s : blocks.Ghosts S}
    {j : store_premises.Ghosts J} {n : naming.Ghosts J}
    → Shared S J L s j n → ℕ
last_stop shared = shared.stop

-- how many ends there are
abbrev pub ends_in : {S J L : Type 0} {s : blocks.Ghosts S}
    {j : store_premises.Ghosts J} {n : naming.Ghosts J}
    → Shared S J L s j n → ℕ
ends_in shared = length shared.slots.items

-- how many ends what stores the jobs can tell what became of theirs
abbrev pub slots_of : {S J L C Q : Type 0} {s : blocks.Ghosts S}
    {j : store_premises.Ghosts J} {n : naming.Ghosts J}
    {q : register_ref.Ghosts Q} → Keeper S J L C Q s j n q → ℕ
slots_of keeper = ends_in keeper.shared.now

-- for how many seconds ids are remembered where it stores, where they aren't for good
abbrev pub remembers : {S J L C Q : Type 0} {s : blocks.Ghosts S}
    {j : store_premises.Ghosts J} {n : naming.Ghosts J}
    {q : register_ref.Ghosts Q} → Keeper S J L C Q s j n q → Option ℕ
remembers keeper = remember_in keeper.shared.now

-- how many buffers there are where it stores
abbrev pub buffers_of : {S J L C Q : Type 0} {s : blocks.Ghosts S}
    {j : store_premises.Ghosts J} {n : naming.Ghosts J}
    {q : register_ref.Ghosts Q} → Keeper S J L C Q s j n q → ℕ
buffers_of keeper = buffers_in keeper.shared.now

-- The parts behind these locks are as many as those without locks, beside which there are so many
-- slots, and the settings are the same. No public contract cites it.
pub record HasParts {S J L : Type 0} {s : blocks.Ghosts S}
    {j : store_premises.Ghosts J} {n : naming.Ghosts J}
    (shared : Shared S J L s j n) (alone : Alone S J L s j n) (slots : ℕ)
    : Type 0 where
  pub buffers : buffers_in shared ≡ length alone.buffers.items
  pub groups : groups_in shared ≡ length alone.placed_groups.items
  pub feeds : feeds_in shared ≡ alone.feeds
  pub ends : ends_in shared ≡ slots
  pub remembers : remember_in shared ≡ alone.remember
  pub stop_is : last_stop shared ≡ alone.stop
