-- What a device holds of a buffer that was stopped, and what a start reads off it
-- (docs/FORMATS.md, Head blocks; docs/PROTOCOL.md, Clean stop and start).
use Rattle.std.specs.Prelude.{◌≡◌, ◌↔◌, ℕ, ◌+◌, ◌-◌, ◌*◌, ◌/◌, ◌%◌, ◌<◌, ◌≤◌, nat_lt, Bool}
use Rattle.std.specs.Prelude.{true, false, List, [], ◌∷◌, length, min, None, Some}
use Rattle.std.specs.Prelude.{if◌then◌else◌}
use Rattle.std.specs.List.{AllByRecursion}
use Rattle.news_terms.specs.BlockImage.{Block, IsBlock, block_of, block_image, chunk_size}
use Rattle.news_terms.specs.HeadBlocks.{HeadBlock, HeadState, Closed, IsHeadBlock, head_image}
use Rattle.news_terms.specs.HeadBlocks.{bits_of_block, bitmap_blocks, is_set}
use Rattle.news_terms.specs.Places.{Buffer, size_of, on_line, IsLive}
use Rattle.news_terms.specs.Token.{Token}
use Rattle.cyc_block.specs.Store.{block_at}
use Rattle.cyc_buffer.specs.History.{Article, History, head_of, cycle_of, front_of, finished_at}
use Rattle.cyc_buffer.specs.History.{stored_count}
use Rattle.cyc_buffer.specs.BufferState.{IsSized, IsUnpassedBy}

-- the bit of block j in the bitmap of a device's head blocks
abbrev pub has_bit : (heads : List (List ℕ)) → (j : ℕ) → Bool
has_bit heads j = is_set (block_at heads (1 + j / bits_of_block)) (j % bits_of_block)

-- the block after the newest begin of a history, in its cycle; 0 where nothing was begun
abbrev pub used_of : History → ℕ
used_of h = (head_of h.buffer.blocks h.begins).used

-- what head block 0 says of a history's buffer
abbrev pub numbers_of : HeadState → (stop : ℕ) → History → HeadBlock
numbers_of state stop h = record {
  state = state;
  number = h.buffer.number;
  blocks = h.buffer.blocks;
  first_cycle = h.buffer.first_cycle;
  cycle = cycle_of h;
  head = used_of h;
  stop = stop;
  begun = length h.begins;
  stored = stored_count h.begins;
}

-- a finished article begins at the block, and is live
pub record BeginsLive (h : History) (block : ℕ) : Type 0 where
  pub cycle : ℕ
  pub article : Article
  pub finished : finished_at h.buffer h.begins cycle block ≡ Some article
  pub unpassed : IsUnpassedBy (cycle_of h) (used_of h) cycle block

-- the bitmap says in which blocks of the history's buffer a live finished article begins, and of no
-- block past the last anything
pub record TellsStarts (heads : List (List ℕ)) (h : History) : Type 0 where
  pub starts : (j : ℕ) → j < h.buffer.blocks → (has_bit heads j ≡ true) ↔ BeginsLive h j
  pub beyond : (j : ℕ) → h.buffer.blocks ≤ j → j < bits_of_block * bitmap_blocks h.buffer.blocks
      → has_bit heads j ≡ false

-- The device holds, as stopped under this number, a buffer that agreed with the history: its head
-- block says its numbers, its bitmap the live finished articles, and what isn't passed of finished
-- articles stands in its blocks. The list of begins is none of it: many histories are held at once,
-- and a start agrees with each of them.
pub record HoldsStopped (heads blocks : List (List ℕ)) (stop : ℕ) (h : History) : Type 0 where
  pub numbers : block_at heads 0 ≡ head_image (numbers_of Closed stop h)
  pub fit : IsHeadBlock (numbers_of Closed stop h)
  pub count : length blocks ≡ h.buffer.blocks
  pub bitmap : TellsStarts heads h
  pub articles : (cycle first k : ℕ) (article : Article)
      → finished_at h.buffer h.begins cycle first ≡ Some article
      → k < size_of (length article.text)
      → IsUnpassedBy (cycle_of h) (used_of h) cycle (first + k)
      → block_at blocks (first + k)
      ≡ block_image (block_of cycle first article.class article.text k)
  pub sizes : AllByRecursion (IsSized h.buffer.blocks) h.begins
  pub idle : h.writing ≡ None

-- block k of the article under a token, holding this payload
abbrev pub block_under : Token → (k : ℕ) → (payload : List ℕ) → Block
block_under t k payload = record {
  cycle = t.cycle;
  first = t.first;
  index = k;
  article_length = t.length;
  class = t.class;
  payload = payload;
}

-- The octets are an image with the stamp of block k of the article under a token, and hold as many
-- octets of it as that block does.
pub record IsImageUnder (octets : List ℕ) (t : Token) (k : ℕ) : Type 0 where
  pub payload : List ℕ
  pub block : IsBlock (block_under t k payload)
  pub fills : length payload ≡ min chunk_size (t.length - chunk_size * k)
  pub image : octets ≡ block_image (block_under t k payload)

-- where the articles of a block's cycle end at the latest: at the head, or at the last block
abbrev pub end_by : HeadBlock → (block : ℕ) → ℕ
end_by b block = if nat_lt block b.head then b.head else b.blocks

-- The token is of an article that the bitmap says begins at its first block: all its blocks are
-- images with its stamp, in the cycle that its place has, live and clear of the others.
pub record IsWhole (heads blocks : List (List ℕ)) (b : HeadBlock) (t : Token) : Type 0 where
  pub marked : has_bit heads t.first ≡ true
  pub buffer : t.buffer ≡ b.number
  pub some : 1 ≤ t.length
  pub begun : b.first_cycle ≤ t.cycle
  pub live : IsUnpassedBy b.cycle b.head t.cycle t.first
  pub ends : t.first + size_of t.length ≤ end_by b t.first
  pub images : (k : ℕ) → k < size_of t.length → IsImageUnder (block_at blocks (t.first + k)) t k
  pub clear : (j : ℕ) → t.first < j → j < t.first + size_of t.length → has_bit heads j ≡ false

-- head block 0 says these numbers, of the buffer that is asked for
pub record Says (heads : List (List ℕ)) (buffer : Buffer) (b : HeadBlock) : Type 0 where
  pub numbers : IsHeadBlock b
  pub image : block_at heads 0 ≡ head_image b
  pub number : b.number ≡ buffer.number
  pub blocks : b.blocks ≡ buffer.blocks
  pub first_cycle : b.first_cycle ≡ buffer.first_cycle

-- the blocks that the front passed since the first cycle
abbrev pub passed_blocks : HeadBlock → ℕ
passed_blocks b = (b.cycle - b.first_cycle) * b.blocks + b.head

-- what is wrong with the numbers and the bitmap of a buffer that was stopped
pub data IsDamaged (heads blocks : List (List ℕ)) (b : HeadBlock) : Type 0 where
  -- the head is above the number of blocks
  HeadAbove : b.blocks < b.head → IsDamaged heads blocks b
  -- the cycle is below the first
  CycleBelow : b.cycle < b.first_cycle → IsDamaged heads blocks b
  -- more were begun than blocks were passed
  BegunAbove : passed_blocks b < b.begun → IsDamaged heads blocks b
  -- more were stored than begun
  StoredAbove : b.begun < b.stored → IsDamaged heads blocks b
  -- a bit past the last block is set
  BitBeyond : (j : ℕ) → b.blocks ≤ j → j < bits_of_block * bitmap_blocks b.blocks
      → has_bit heads j ≡ true → IsDamaged heads blocks b
  -- a bit is set where no whole article begins
  NotWhole : (j : ℕ) → j < b.blocks → has_bit heads j ≡ true
      → ((t : Token) → t.first ≡ j → IsWhole heads blocks b t → ⊥) → IsDamaged heads blocks b

-- the token is of a live finished article of the history
pub record IsLiveToken (h : History) (t : Token) : Type 0 where
  pub article : Article
  pub finished : finished_at h.buffer h.begins t.cycle t.first ≡ Some article
  pub buffer : t.buffer ≡ h.buffer.number
  pub class : article.class ≡ t.class
  pub octets : length article.text ≡ t.length
  pub live : IsLive h.buffer.blocks (front_of h) (on_line h.buffer.blocks t.cycle t.first)

-- each token's place is behind the one before
abbrev pub IsRisingFrom : (blocks place : ℕ) → List Token → Type 0
IsRisingFrom blocks place [] = Unit {0}
IsRisingFrom blocks place (t ∷ ts) =
    (place ≤ on_line blocks t.cycle t.first)
    × IsRisingFrom blocks (on_line blocks t.cycle t.first + 1) ts

-- the places of the tokens rise
abbrev pub IsRising : (blocks : ℕ) → List Token → Type 0
IsRising blocks ts = IsRisingFrom blocks 0 ts
