-- Zeros in files (docs/FORMATS.md, Blocks on the device).
use Rattle.std.specs.Prelude.{◌≡◌, ◌⊎◌, ◌+◌, ◌-◌, ◌*◌, ◌≤◌, ℕ, List, All, replicate}
use Rattle.cyc_block.specs.declared.TheConstants.{BLOCK_OCTETS}
use Rattle.news_terms.specs.HeadBlocks.{head_blocks}
use Rattle.file_blocks.specs.File.{octets_in, ChangesOnlyIn}
use Rattle.file_blocks.specs.declared.zeros.TheConstants.{PIECE}

-- each of the octets from one place on up to another is 0
abbrev pub AreZeros : (from to : ℕ) → List ℕ → Type 0
AreZeros from to octets = All (λ octet. octet ≡ 0) (octets_in octets from (to - from))

-- so many octets as lie between two places are there, and each of them is 0
abbrev pub HasZeros : (from to : ℕ) → List ℕ → Type 0
HasZeros from to octets = octets_in octets from (to - from) ≡ replicate (to - from) 0

-- where n blocks and their head blocks end, in octets from the front of the file
abbrev pub end_of : (n : ℕ) → ℕ
end_of n = (n + head_blocks n) * BLOCK_OCTETS

-- nothing was ever kept in these octets, as far as they are of n blocks and their head blocks: each
-- of them is 0
abbrev pub IsUntouched : (n : ℕ) → List ℕ → Type 0
IsUntouched n octets = AreZeros 0 (end_of n) octets

-- Zeros were written from one place on, not past another: there are zeros up to a place between
-- them, and behind the piece that begins there the octets are as before.
pub record IsPartlyZeroed (from to : ℕ) (old new : List ℕ) : Type 0 where
  pub end : ℕ
  pub begun : from ≤ end
  pub within : end ≤ to
  pub zeros : HasZeros from end new
  pub rest : octets_in new (end + PIECE) (to - (end + PIECE))
      ≡ octets_in old (end + PIECE) (to - (end + PIECE))

-- What is left where n blocks and their head blocks are to get zeros, done or not: the blocks are
-- as before, or all head blocks have zeros, and so have the blocks up to a place.
abbrev pub IsPartlyEmptied : (n : ℕ) → (old new : List ℕ) → Type 0
IsPartlyEmptied n old new =
    ChangesOnlyIn (n * BLOCK_OCTETS) (head_blocks n * BLOCK_OCTETS) old new
    ⊎ (HasZeros (n * BLOCK_OCTETS) (end_of n) new × IsPartlyZeroed 0 (n * BLOCK_OCTETS) old new)
