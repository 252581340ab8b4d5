-- What the blocks of a store hold (docs/FORMATS.md, Blocks on the device).
use Rattle.std.specs.Prelude.{◌≡◌, ◌≢◌, ℕ, List, [], slice_index_or, replicate}
use Rattle.cyc_block.specs.declared.TheConstants.{BLOCK_OCTETS}

-- the octets of block k; none where there is no such block
abbrev pub block_at : List (List ℕ) → ℕ → List ℕ
block_at blocks k = slice_index_or blocks k []

-- no block but k holds other octets than before
abbrev pub ChangesOnly : ℕ → List (List ℕ) → List (List ℕ) → Type 0
ChangesOnly k old new = (j : ℕ) → j ≢ k → block_at new j ≡ block_at old j

-- so many blocks of zeros
abbrev pub empty_blocks : ℕ → List (List ℕ)
empty_blocks n = replicate n (replicate BLOCK_OCTETS 0)
