-- Head blocks: what a stopped buffer leaves on its device of itself, a block of numbers and a
-- bitmap of the blocks in which a live finished article begins (docs/FORMATS.md, Head blocks).
use Rattle.std.specs.Prelude.{ℕ, zero, suc, ◌+◌, ◌-◌, ◌*◌, ◌/◌, ◌%◌, ◌^◌, ◌<◌, ◌≤◌, ◌==◌, Bool}
use Rattle.std.specs.Prelude.{List, [], ◌∷◌, ◌++◌, get_or, replicate, codes}
use Rattle.std.specs.Prelude.{if◌then◌else◌}
use Rattle.std.specs.Int.{w32, w64, to_be_bytes, bit_at}
use Rattle.news_terms.specs.Places.{block_size}

-- the blocks of a buffer that one block of its bitmap speaks of
abbrev pub bits_of_block : ℕ
bits_of_block = 4096

-- b is the least number of blocks whose bits are enough for so many blocks
pub record IsBitmapSize (blocks b : ℕ) : Type 0 where
  pub enough : blocks ≤ bits_of_block * b
  pub least : (m : ℕ) → blocks ≤ bits_of_block * m → b ≤ m

-- the blocks that the bitmap of so many blocks takes
abbrev pub bitmap_blocks : ℕ → ℕ
bitmap_blocks blocks = (blocks + (bits_of_block - 1)) / bits_of_block

-- the head blocks of a device of so many blocks: the one of numbers, and those of the bitmap
abbrev pub head_blocks : ℕ → ℕ
head_blocks blocks = 1 + bitmap_blocks blocks

-- what a device says of its buffer's state
pub data HeadState : Type 0 where
  -- it may have been changed since
  Open : HeadState
  -- it was stopped
  Closed : HeadState

-- the octet of a state
abbrev pub state_octet : HeadState → ℕ
state_octet Open = 0
state_octet Closed = 1

-- The numbers of a buffer: state, number, blocks, first cycle, the cycle that its newest article is
-- in, the next block in that cycle, the number of the stop, and how many articles were begun and
-- stored (docs/FORMATS.md, Head blocks).
pub record HeadBlock : Type 0 where
  pub state : HeadState
  pub number : ℕ
  pub blocks : ℕ
  pub first_cycle : ℕ
  pub cycle : ℕ
  pub head : ℕ
  pub stop : ℕ
  pub begun : ℕ
  pub stored : ℕ

-- the numbers are within their octets (docs/FORMATS.md, Head blocks)
pub record IsHeadBlock (b : HeadBlock) : Type 0 where
  pub number : b.number < 2 ^ 8
  pub blocks : b.blocks < 2 ^ 32
  pub first_cycle : b.first_cycle < 2 ^ 32
  pub cycle : b.cycle < 2 ^ 32
  pub head : b.head < 2 ^ 32
  pub stop : b.stop < 2 ^ 64
  pub begun : b.begun < 2 ^ 64
  pub stored : b.stored < 2 ^ 64

-- the octets that say which buffer it is and how far it is used, the highest octet of each number
-- first (docs/FORMATS.md, Head blocks)
abbrev pub head_places : HeadBlock → List ℕ
head_places b =
    codes "CNH1"
    ++ state_octet b.state ∷ b.number ∷ 0 ∷ 0 ∷ []
    ++ to_be_bytes w32 b.blocks
    ++ to_be_bytes w32 b.first_cycle
    ++ to_be_bytes w32 b.cycle
    ++ to_be_bytes w32 b.head

-- the octets of the number of the stop and of the counts (docs/FORMATS.md, Head blocks)
abbrev pub head_counts : HeadBlock → List ℕ
head_counts b =
    to_be_bytes w64 b.stop ++ to_be_bytes w64 b.begun ++ to_be_bytes w64 b.stored

-- the octets of head block 0 (docs/FORMATS.md, Head blocks)
abbrev pub head_image : HeadBlock → List ℕ
head_image b = head_places b ++ head_counts b ++ replicate (block_size - 48) 0

-- what a bit counts for
abbrev pub weight : Bool → (of : ℕ) → ℕ
weight marked of = if marked then of else 0

-- the octet of eight blocks, the first of them in the highest bit
abbrev pub octet_of : (ℕ → Bool) → (from : ℕ) → ℕ
octet_of marked from =
    weight (marked from) 128 + weight (marked (from + 1)) 64 + weight (marked (from + 2)) 32
    + weight (marked (from + 3)) 16 + weight (marked (from + 4)) 8 + weight (marked (from + 5)) 4
    + weight (marked (from + 6)) 2 + weight (marked (from + 7)) 1

-- the octets of eight blocks each, from one on
unfoldable pub octets_of : (ℕ → Bool) → (from n : ℕ) → List ℕ
octets_of marked from zero = []
octets_of marked from (suc n) = octet_of marked from ∷ octets_of marked (from + 8) n

-- the octets of block i of the bitmap of marked blocks (docs/FORMATS.md, Head blocks)
abbrev pub bitmap_block : (ℕ → Bool) → (i : ℕ) → List ℕ
bitmap_block marked i = octets_of marked (bits_of_block * i) block_size

-- whether the bit of a block is set, by the octets of a bitmap's block: every text is a bitmap
abbrev pub is_set : List ℕ → (j : ℕ) → Bool
is_set octets j = bit_at (get_or octets (j / 8) 0) (7 - j % 8) == 1
