-- Blocks on the device: a text in chunks, and each chunk in a block of 512 octets.
use Rattle.std.specs.Prelude.{ℕ, ◌-◌, ◌*◌, ◌^◌, ◌<◌, ◌≤◌, List, ◌∷◌, [], ◌++◌, length, take, drop}
use Rattle.std.specs.Prelude.{replicate, codes}
use Rattle.std.specs.Int.{w16, w32, to_be_bytes}
pub use Rattle.news_terms.specs.Places.{block_size, chunk_size}

-- the k-th chunk of a text, from 0 (docs/FORMATS.md, Blocks on the device)
abbrev pub chunk : (k : ℕ) → (text : List ℕ) → List ℕ
chunk k text = take chunk_size (drop (chunk_size * k) text)

-- a block of an article: the cycle of its buffer, the article's first block, this block's index in
-- the article, the article's length and class, and the octets that the block holds
-- (docs/FORMATS.md, Blocks on the device)
pub record Block : Type 0 where
  pub cycle : ℕ
  pub first : ℕ
  pub index : ℕ
  pub article_length : ℕ
  pub class : ℕ
  pub payload : List ℕ

-- the numbers of a block are within their octets, and it holds some octets (docs/FORMATS.md,
-- Blocks on the device)
pub record IsBlock (b : Block) : Type 0 where
  pub cycle : b.cycle < 2 ^ 32
  pub first : b.first < 2 ^ 32
  pub index : b.index < 2 ^ 32
  pub article_length : b.article_length < 2 ^ 32
  pub class : b.class < 2 ^ 8
  pub some : 1 ≤ length b.payload
  pub at_most : length b.payload ≤ chunk_size

-- the octets before a block's payload, numbers with the highest octet first (docs/FORMATS.md,
-- Blocks on the device)
abbrev pub block_head : Block → List ℕ
block_head b =
    codes "CNB1"
    ++ to_be_bytes w32 b.cycle
    ++ to_be_bytes w32 b.first
    ++ to_be_bytes w32 b.index
    ++ to_be_bytes w32 b.article_length
    ++ to_be_bytes w16 (length b.payload)
    ++ b.class ∷ []
    ++ replicate 9 0

-- the octets of a block, its payload filled up with zeros (docs/FORMATS.md, Blocks on the device)
abbrev pub block_image : Block → List ℕ
block_image b = block_head b ++ b.payload ++ replicate (chunk_size - length b.payload) 0

-- the k-th block of a text (docs/FORMATS.md, Blocks on the device)
abbrev pub block_of : (cycle first class : ℕ) → (text : List ℕ) → (k : ℕ) → Block
block_of cycle first class text k = record {
  cycle = cycle;
  first = first;
  index = k;
  article_length = length text;
  class = class;
  payload = chunk k text;
}
