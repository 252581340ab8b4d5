-- How far forgetting has come, and what an Expire does (docs/PROTOCOL.md, Forgetting).
use Rattle.std.specs.Prelude.{◌≡◌, ◌≤◌, ℕ, List, map, length, Option, slice_get}
use Rattle.block_shelf.specs.Keeping.{KeepsTexts}
use Rattle.block_shelf.specs.Openings.{Opening}
use Rattle.block_shelf.specs.Reading.{IsFrontAt}
use Rattle.block_shelf.specs.declared.buffer_set.BufferSet.{BufferSet}
use Rattle.block_shelf.specs.Leaving.{Trust}
use Rattle.cyc_block.specs.declared.store.BlockStore.{Ghosts}
use Rattle.cyc_buffer.specs.declared.answers.Front.{Front}
use Rattle.id_history.specs.Expiry.{passed_view}
use Rattle.id_history.specs.Shards.{KeepsAll}
use Rattle.id_history.specs.declared.shards.Shards.{Shards}
use Rattle.relay_model.specs.Claims as claims
use Rattle.relay_model.specs.Claims.{Claim}
use Rattle.relay_model.specs.Run.{forgetter, forgetting}
use Rattle.relay_model.specs.State.{State}
use Rattle.relay_model.specs.Terms.{Terms}
use Rattle.relay_model.specs.World as world
use Rattle.relay_core.specs.declared.expiring.Expirer.{Expirer}
use Rattle.relay_core.specs.declared.expiring.Stage.{Stage}
use Rattle.relay_core.specs.declared.expiring.Stage.TheVariants as stages

-- the fronts that were read, in the order of the buffers
abbrev pub fronts_of : Expirer → List Front
fronts_of expirer = expirer.fronts.items

-- what an Expire does next with these fronts
abbrev pub stage_view : List claims.Passed → Stage → world.Expirer
stage_view fronts stages.Reading = world.Reading fronts
stage_view fronts (stages.Forgetting left) = world.Forgetting fronts left

-- how far forgetting has come, as the definitions have it
abbrev pub expirer_view : Expirer → world.Expirer
expirer_view expirer = stage_view (map passed_view (fronts_of expirer)) expirer.stage

-- the front of the first buffer that wasn't read is given, unless all were read
abbrev pub IsNextFront : {S : Type 0} {g : Ghosts S} → BufferSet S g → Expirer → Option Front
    → Type 0
IsNextFront buffer_set expirer answer =
    (trusted : Trust) (w : Terms) (σ : State) (openings : ℕ → Option Opening) (failures : ℕ → ℕ)
    → KeepsTexts trusted buffer_set w σ.begun σ.kept openings failures → length w.buffers ≤ 256
    → IsFrontAt w σ (slice_get w.buffers (length (fronts_of expirer))) answer

-- with the fronts that were read the ids of the shard are forgotten that may be, and so many more
-- Expires forget with them
pub record Forgets (shard now : ℕ) (remember : Option ℕ) (left : ℕ) (old new : Shards)
    (was expirer : Expirer)
    : Type 0 where
  pub claims : (claim : List ℕ → Claim) → KeepsAll old claim
      → KeepsAll new (forgetting claim shard now remember (map passed_view (fronts_of was)))
  pub expirer_is : expirer_view expirer ≡ forgetter (map passed_view (fronts_of was)) left
