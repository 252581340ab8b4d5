-- Runs of blocks in memory.
use Rattle.std.specs.Prelude.{◌+◌, ◌<◌, ◌≤◌, ℕ, List}
use Rattle.file_blocks.specs.Blocks.{blocks_of}
use Rattle.file_blocks.specs.declared.run.Run.{Run}

-- the blocks of a run
abbrev pub blocks_in : Run → List (List ℕ)
blocks_in run = blocks_of run.count run.octets.items

-- block k is one of a run
abbrev pub Holds : Run → (k : ℕ) → Type 0
Holds run k = (run.first ≤ k) × (k < run.first + run.count)
