-- The blocks of a file, by its octets (docs/FORMATS.md, Blocks on the device, Head blocks).
use Rattle.std.specs.Prelude.{◌≡◌, ◌*◌, ℕ, zero, suc, List, [], ◌∷◌, All, drop}
use Rattle.cyc_block.specs.declared.TheConstants.{BLOCK_OCTETS}
use Rattle.news_terms.specs.HeadBlocks.{head_blocks}
use Rattle.file_blocks.specs.File.{octets_in, ChangesOnlyIn}

-- the 512 octets at a place, fewer where the octets end before
abbrev pub octets_at : List ℕ → (place : ℕ) → List ℕ
octets_at octets place = octets_in octets place BLOCK_OCTETS

-- octets cut into so many blocks, one behind the other
unfoldable pub blocks_of : ℕ → List ℕ → List (List ℕ)
blocks_of zero octets = []
blocks_of (suc n) octets = octets_at octets 0 ∷ blocks_of n (drop BLOCK_OCTETS octets)

-- the head blocks of a file of n blocks, which follow these (docs/FORMATS.md, Head blocks)
abbrev pub heads_of : ℕ → List ℕ → List (List ℕ)
heads_of n octets = blocks_of (head_blocks n) (drop (n * BLOCK_OCTETS) octets)

-- no buffer of so many blocks was kept in these octets: those of its first block and of its first
-- head block are all 0
abbrev pub IsBlank : (n : ℕ) → List ℕ → Type 0
IsBlank n octets = All (λ octet. octet ≡ 0) (octets_at octets 0)
    × All (λ octet. octet ≡ 0) (octets_at octets (n * BLOCK_OCTETS))

-- only the 512 octets at a place are others than before
abbrev pub ChangesOnlyAt : (place : ℕ) → (old new : List ℕ) → Type 0
ChangesOnlyAt place old new = ChangesOnlyIn place BLOCK_OCTETS old new
