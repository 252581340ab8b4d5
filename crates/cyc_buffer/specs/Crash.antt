-- What a device holds of a buffer whose program was killed, or whose power failed, and what is
-- found of it again (docs/PROTOCOL.md, Crashes).
use Rattle.std.specs.Prelude.{◌≡◌, ◌⊎◌, ◌↔◌, ℕ, ◌+◌, ◌-◌, ◌*◌, ◌^◌, ◌<◌, ◌≤◌, List, [], ◌∷◌, length}
use Rattle.std.specs.Prelude.{map, None, Some, Bool, true}
use Rattle.std.specs.List.{AllByRecursion, Contains}
use Rattle.news_terms.specs.BlockImage.{block_of, block_image}
use Rattle.news_terms.specs.HeadBlocks.{HeadBlock}
use Rattle.news_terms.specs.Places.{Buffer, size_of, on_line}
use Rattle.news_terms.specs.Token.{Token}
use Rattle.cyc_block.specs.Store.{block_at}
use Rattle.cyc_token.specs.Token.{token_view}
use Rattle.cyc_token.specs.declared.Token as codes
use Rattle.cyc_buffer.specs.History.{Article, History, cycle_of, front_of, finished_at}
use Rattle.cyc_buffer.specs.History.{stored_count, begun_at}
use Rattle.cyc_buffer.specs.BufferState.{IsSized, IsUnpassedBy}
use Rattle.cyc_buffer.specs.Starting.{blocks_in}
use Rattle.cyc_buffer.specs.declared.answers.StartError.{StartError}
use Rattle.cyc_buffer.specs.declared.answers.StartError.TheVariants as errors
use Rattle.cyc_buffer.specs.Stopped.{IsImageUnder, IsLiveToken, IsRising, Says, used_of}

-- The octets are block k of the article under a token, which is one of this buffer: it was begun in
-- its first cycle or later, and ends by its last block.
pub record IsPieceIn (buffer : Buffer) (octets : List ℕ) (t : Token) (k : ℕ) : Type 0 where
  pub number : t.buffer ≡ buffer.number
  pub begun : buffer.first_cycle ≤ t.cycle
  pub ends : t.first + size_of t.length ≤ buffer.blocks
  pub inside : k < size_of t.length
  pub image : IsImageUnder octets t k

-- the device has block k of the article under a token, where that lies
abbrev pub IsPiece : Buffer → (blocks : List (List ℕ)) → Token → (k : ℕ) → Type 0
IsPiece buffer blocks t k = IsPieceIn buffer (block_at blocks (t.first + k)) t k

-- the device has each block of the article under a token
pub record IsThere (buffer : Buffer) (blocks : List (List ℕ)) (t : Token) : Type 0 where
  pub some : 1 ≤ t.length
  pub pieces : (k : ℕ) → k < size_of t.length → IsPiece buffer blocks t k

-- where the article under a token ends on the endless line of so many blocks
abbrev pub end_on_line : (blocks : ℕ) → Token → ℕ
end_on_line blocks t = on_line blocks t.cycle (t.first + size_of t.length)

-- an article of which the device has a block ends here
pub record IsReached (buffer : Buffer) (blocks : List (List ℕ)) (cycle used : ℕ) : Type 0 where
  pub token : Token
  pub index : ℕ
  pub piece : IsPiece buffer blocks token index
  pub cycle_is : token.cycle ≡ cycle
  pub used_is : token.first + size_of token.length ≡ used

-- nothing of the buffer is used
pub record IsUnused (buffer : Buffer) (cycle used : ℕ) : Type 0 where
  pub cycle_is : cycle ≡ buffer.first_cycle
  pub used_is : used ≡ 0

-- The front that a device tells: the end of the article that ends last of all of which it has a
-- block, or the front of the first cycle, where it has none. An article that was begun and of which
-- no block is there had no effect.
pub record IsFrontOn (buffer : Buffer) (blocks : List (List ℕ)) (cycle used : ℕ) : Type 0 where
  pub reached : IsReached buffer blocks cycle used ⊎ IsUnused buffer cycle used
  pub last : (t : Token) (k : ℕ) → IsPiece buffer blocks t k
      → end_on_line buffer.blocks t ≤ on_line buffer.blocks cycle used

-- The article under a token is found again where the front is here: the device has all of it, and
-- its first block is before the front in its cycle, or behind it in the cycle before.
pub record IsFoundAgain (buffer : Buffer) (blocks : List (List ℕ)) (cycle used : ℕ) (t : Token)
    : Type 0 where
  pub there : IsThere buffer blocks t
  pub live : IsUnpassedBy cycle used t.cycle t.first

-- the articles follow each other on the endless line of so many blocks, from one place to another
abbrev pub AreOnLine : (blocks from to : ℕ) → List codes.Token → Type 0
AreOnLine blocks from to [] = from ≤ to
AreOnLine blocks from to (t ∷ ts) =
    (from ≤ on_line blocks t.cycle t.first)
    × AreOnLine blocks (end_on_line blocks (token_view t)) to ts

-- The tokens are those of the articles that are found again, rising by place: each begins where the
-- one before ends or behind it, from the front of the first cycle up to the front.
pub record ListsFound (buffer : Buffer) (blocks : List (List ℕ)) (cycle used : ℕ)
    (tokens : List codes.Token) : Type 0 where
  pub all : (t : codes.Token) → Contains tokens t
      ↔ IsFoundAgain buffer blocks cycle used (token_view t)
  pub rising : IsRising buffer.blocks (map token_view tokens)
  pub order : AreOnLine buffer.blocks (on_line buffer.blocks buffer.first_cycle 0)
      (on_line buffer.blocks cycle used) tokens

-- The device tells what the history says: its front, and as its live finished articles those that
-- are found again. What isn't passed of its finished articles stands in the blocks.
pub record Tells (blocks : List (List ℕ)) (h : History) : Type 0 where
  pub count : length blocks ≡ h.buffer.blocks
  pub front : IsFrontOn h.buffer blocks (cycle_of h) (used_of h)
  pub found : (t : Token) → IsFoundAgain h.buffer blocks (cycle_of h) (used_of h) t
      → IsLiveToken h t
  pub articles : (cycle first k : ℕ) (article : Article)
      → finished_at h.buffer h.begins cycle first ≡ Some article
      → k < size_of (length article.text)
      → IsUnpassedBy (cycle_of h) (used_of h) cycle (first + k)
      → block_at blocks (first + k)
      ≡ block_image (block_of cycle first article.class article.text k)
  pub sizes : AllByRecursion (IsSized h.buffer.blocks) h.begins
  pub idle : h.writing ≡ None
  pub cycle : cycle_of h < 2 ^ 32
  pub fits : h.buffer.blocks < 2 ^ 32

-- The history counts what a recovery counts that has found these articles: each block of no such
-- article as a begin of its own, which was never finished. How many begins there were isn't on the
-- device.
pub record CountsFound (h : History) (tokens : List codes.Token) : Type 0 where
  pub begun : length h.begins + blocks_in tokens
      ≡ (cycle_of h - h.buffer.first_cycle) * h.buffer.blocks + used_of h + length tokens
  pub stored : stored_count h.begins ≡ length tokens

-- The article under a token is one that was begun in the history at this place with as many blocks,
-- and where it was finished there the device has its text.
pub record IsOfHistory (h : History) (blocks : List (List ℕ)) (t : Token) : Type 0 where
  pub size : begun_at h.buffer h.begins t.cycle t.first ≡ Some (size_of t.length)
  pub class : (article : Article)
      → finished_at h.buffer h.begins t.cycle t.first ≡ Some article → article.class ≡ t.class
  pub octets : (article : Article)
      → finished_at h.buffer h.begins t.cycle t.first ≡ Some article
      → length article.text ≡ t.length
  pub text : (article : Article) (k : ℕ)
      → finished_at h.buffer h.begins t.cycle t.first ≡ Some article → k < size_of t.length
      → block_at blocks (t.first + k)
      ≡ block_image (block_of t.cycle t.first article.class article.text k)

-- The article under a token can be found again: the device has all of it, and has no block of an
-- article that ends more than the buffer's blocks behind it.
pub record CanBeFound (buffer : Buffer) (blocks : List (List ℕ)) (t : Token) : Type 0 where
  pub there : IsThere buffer blocks t
  pub unpassed : (u : Token) (k : ℕ) → IsPiece buffer blocks u k
      → end_on_line buffer.blocks u ≤ on_line buffer.blocks t.cycle t.first + buffer.blocks

-- The device may be what a crash has left of a buffer with this history. Of whatever article it has
-- a block, the front of the history is past it; each article that can be found again was begun
-- in the history; and it has each article that was to be kept, all of which are
-- finished and live.
pub record IsLeftOf (h : History) (kept : Token → Bool) (blocks : List (List ℕ)) : Type 0 where
  pub count : length blocks ≡ h.buffer.blocks
  pub passed : (t : Token) (k : ℕ) → IsPiece h.buffer blocks t k
      → end_on_line h.buffer.blocks t ≤ front_of h
  pub begun : (t : Token) → CanBeFound h.buffer blocks t → IsOfHistory h blocks t
  pub live : (t : Token) → kept t ≡ true → IsLiveToken h t
  pub there : (t : Token) → kept t ≡ true → IsThere h.buffer blocks t

-- What a crash leaves of a device block by block: each block is no block of any article of this
-- buffer, or one of an article that was begun in the history, and that article's own where it was
-- finished; and each block of an article that was to be kept is there.
pub record IsCrashOf (h : History) (kept : Token → Bool) (blocks : List (List ℕ)) : Type 0 where
  pub count : length blocks ≡ h.buffer.blocks
  pub own : (t : Token) (k : ℕ) → IsPiece h.buffer blocks t k
      → begun_at h.buffer h.begins t.cycle t.first ≡ Some (size_of t.length)
  pub class : (t : Token) (k : ℕ) (article : Article) → IsPiece h.buffer blocks t k
      → finished_at h.buffer h.begins t.cycle t.first ≡ Some article → article.class ≡ t.class
  pub octets : (t : Token) (k : ℕ) (article : Article) → IsPiece h.buffer blocks t k
      → finished_at h.buffer h.begins t.cycle t.first ≡ Some article
      → length article.text ≡ t.length
  pub text : (t : Token) (k : ℕ) (article : Article) → IsPiece h.buffer blocks t k
      → finished_at h.buffer h.begins t.cycle t.first ≡ Some article
      → block_at blocks (t.first + k)
      ≡ block_image (block_of t.cycle t.first article.class article.text k)
  pub live : (t : Token) → kept t ≡ true → IsLiveToken h t
  pub there : (t : Token) → kept t ≡ true → IsThere h.buffer blocks t

-- head block 0 is this buffer's, and says the number of the stop that it was started from
pub record IsStopOf (heads : List (List ℕ)) (buffer : Buffer) (stop : ℕ) : Type 0 where
  pub numbers : HeadBlock
  pub says : Says heads buffer numbers
  pub stop_is : numbers.stop ≡ stop

-- the tokens are those of the articles that are found again, wherever the front of the device is
abbrev pub IsFoundIn : (blocks : List (List ℕ)) → Buffer → List codes.Token → Type 0
IsFoundIn blocks buffer tokens = (cycle used : ℕ) → IsFrontOn buffer blocks cycle used
    → ListsFound buffer blocks cycle used tokens

-- Why a buffer isn't found again: memory was refused, the device failed, or its head block 0 is
-- none of this buffer's.
abbrev pub IsUnfound : (heads : List (List ℕ)) → Buffer → StartError → Type 0
IsUnfound heads buffer errors.Memory = Unit {0}
IsUnfound heads buffer errors.Device = Unit {0}
IsUnfound heads buffer errors.NoHead = (b : HeadBlock) → Says heads buffer b → ⊥
IsUnfound heads buffer errors.Unclosed = ⊥
IsUnfound heads buffer errors.Damaged = ⊥

-- Block k of the article under a token was written whole or not at all: it holds what it held, or
-- is that block of the article.
abbrev pub IsWrittenWhole : Buffer → (old new : List (List ℕ)) → Token → (k : ℕ) → Type 0
IsWrittenWhole buffer old new t k =
    (block_at new (t.first + k) ≡ block_at old (t.first + k)) ⊎ IsPiece buffer new t k

-- Block k of the article under a token was written since the front was there: it is one of an
-- article that was begun in the history since, and that article's own where it was finished.
pub record IsWrittenSince (front : ℕ) (h : History) (blocks : List (List ℕ)) (t : Token) (k : ℕ) :
    Type 0 where
  pub piece : IsPiece h.buffer blocks t k
  pub since : front ≤ on_line h.buffer.blocks t.cycle t.first
  pub size : begun_at h.buffer h.begins t.cycle t.first ≡ Some (size_of t.length)
  pub ends : end_on_line h.buffer.blocks t ≤ front_of h
  pub class : (article : Article)
      → finished_at h.buffer h.begins t.cycle t.first ≡ Some article → article.class ≡ t.class
  pub octets : (article : Article)
      → finished_at h.buffer h.begins t.cycle t.first ≡ Some article
      → length article.text ≡ t.length
  pub text : (article : Article)
      → finished_at h.buffer h.begins t.cycle t.first ≡ Some article
      → block_at blocks (t.first + k)
      ≡ block_image (block_of t.cycle t.first article.class article.text k)

-- some block of an article that was written since stands at block j
pub record HasBlockSince (front : ℕ) (h : History) (blocks : List (List ℕ)) (j : ℕ) : Type 0 where
  pub token : Token
  pub index : ℕ
  pub here : token.first + index ≡ j
  pub written : IsWrittenSince front h blocks token index

-- What a loss of writes leaves: since the device was safe, with a history in which no write was
-- open, more was begun and written; of these writes any are there, each whole, and where one isn't
-- the block holds what it held when the device was safe.
pub record IsLossOf (h : History) (safe : List (List ℕ)) (later : History) (blocks : List (List ℕ))
    : Type 0 where
  pub buffer : later.buffer ≡ h.buffer
  pub count : length blocks ≡ length safe
  pub front : front_of h ≤ front_of later
  pub begun : (cycle first size : ℕ) → begun_at h.buffer h.begins cycle first ≡ Some size
      → begun_at later.buffer later.begins cycle first ≡ Some size
  pub finished : (cycle first : ℕ) (article : Article)
      → finished_at later.buffer later.begins cycle first ≡ Some article
      → on_line h.buffer.blocks cycle first < front_of h
      → finished_at h.buffer h.begins cycle first ≡ Some article
  pub each : (j : ℕ) → (block_at blocks j ≡ block_at safe j)
      ⊎ HasBlockSince (front_of h) later blocks j
