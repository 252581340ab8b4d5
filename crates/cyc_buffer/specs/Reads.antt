-- What a start reads of a device, step by step (docs/PROTOCOL.md, Clean stop and start).
use Rattle.std.specs.Prelude.{◌≡◌, ◌⊎◌, ℕ, ◌+◌, ◌-◌, ◌*◌, ◌<◌, ◌≤◌, Bool, true, false, List, []}
use Rattle.std.specs.Prelude.{◌∷◌, length, map, None}
use Rattle.std.specs.List.{Contains}
use Rattle.news_terms.specs.BlockImage.{Block, IsBlock, block_image}
use Rattle.news_terms.specs.HeadBlocks.{HeadBlock, IsHeadBlock, head_image, bits_of_block, is_set}
use Rattle.news_terms.specs.HeadBlocks.{bitmap_blocks, Open, Closed}
use Rattle.news_terms.specs.Places.{Buffer, size_of, on_line}
use Rattle.news_terms.specs.Token as terms
use Rattle.cyc_block.specs.Store.{block_at}
use Rattle.cyc_block.specs.declared.store.BlockStore.{Ghosts}
use Rattle.cyc_token.specs.Token.{token_view}
use Rattle.cyc_token.specs.declared.Token.{Token}
use Rattle.cyc_buffer.specs.Marks.{is_marked}
use Rattle.cyc_buffer.specs.BufferState.{numbers_in}
use Rattle.cyc_buffer.specs.Stopped.{IsImageUnder, IsDamaged, Says, has_bit, passed_blocks}
use Rattle.cyc_buffer.specs.declared.answers.StartError.{StartError}
use Rattle.cyc_buffer.specs.declared.answers.StartError.TheVariants as errors
use Rattle.cyc_buffer.specs.declared.buffer_state.BufferState.{BufferState}

-- what an honest store holds stays as it was, and any store keeps the number of its blocks
pub record StaysHeld {S : Type 0} (g : Ghosts S) (old new : S) : Type 0 where
  pub honest : g.honest old → g.honest new
  pub blocks : g.honest old → g.blocks new ≡ g.blocks old
  pub heads : g.honest old → g.heads new ≡ g.heads old
  pub count : length (g.blocks new) ≡ length (g.blocks old)

-- a refusal says Device where the device failed, and only there
abbrev pub IsBlamed : {S : Type 0} (g : Ghosts S) (old new : S) → StartError → Type 0
IsBlamed g old new errors.Memory = g.failures new ≡ g.failures old
IsBlamed g old new errors.Device = g.failures old < g.failures new
IsBlamed g old new errors.NoHead = g.failures new ≡ g.failures old
IsBlamed g old new errors.Unclosed = g.failures new ≡ g.failures old
IsBlamed g old new errors.Damaged = g.failures new ≡ g.failures old

-- the refusal is Damaged with this cause, or comes from without
abbrev pub IsDamageBy : Type 0 → StartError → Type 0
IsDamageBy cause errors.Memory = Unit {0}
IsDamageBy cause errors.Device = Unit {0}
IsDamageBy cause errors.NoHead = ⊥
IsDamageBy cause errors.Unclosed = ⊥
IsDamageBy cause errors.Damaged = cause

-- head block 0 says these numbers of the buffer, and no others
pub record SaysOnly (heads : List (List ℕ)) (buffer : Buffer) (b : HeadBlock) : Type 0 where
  pub says : Says heads buffer b
  pub only : (c : HeadBlock) → IsHeadBlock c → block_at heads 0 ≡ head_image c → b ≡ c

-- the numbers can be those of a buffer
pub record AreSound (b : HeadBlock) : Type 0 where
  pub head : b.head ≤ b.blocks
  pub cycle : b.first_cycle ≤ b.cycle
  pub begun : b.begun ≤ passed_blocks b
  pub stored : b.stored ≤ b.begun

-- a bit is set past the last block of the buffer
pub record IsBeyond (heads : List (List ℕ)) (blocks : ℕ) : Type 0 where
  pub at : ℕ
  pub behind : blocks ≤ at
  pub within : at < bits_of_block * bitmap_blocks blocks
  pub set : has_bit heads at ≡ true

-- the octets of a bitmap's block have a bit set past so many blocks
pub record HasBitPast (octets : List ℕ) (limit : ℕ) : Type 0 where
  pub at : ℕ
  pub behind : limit ≤ at
  pub within : at < bits_of_block
  pub set : is_set octets at ≡ true

-- one of the blocks from one up to another is marked
pub record HasMark (words : List ℕ) (from to : ℕ) : Type 0 where
  pub at : ℕ
  pub behind : from ≤ at
  pub before : at < to
  pub marked : is_marked words at ≡ true

-- whatever block the octets are an image of, its article has the token's length and class
pub record IsOfToken (octets : List ℕ) (t : terms.Token) : Type 0 where
  pub length : (b : Block) → IsBlock b → octets ≡ block_image b → b.article_length ≡ t.length
  pub class : (b : Block) → IsBlock b → octets ≡ block_image b → b.class ≡ t.class

-- The token is of an article of this buffer and cycle that ends by a block, and its blocks are
-- images with its stamp.
pub record IsRead (blocks : List (List ℕ)) (number since end : ℕ) (t : terms.Token) : Type 0 where
  pub buffer : t.buffer ≡ number
  pub cycle : t.cycle ≡ since
  pub some : 1 ≤ t.length
  pub ends : t.first + size_of t.length ≤ end
  pub images : (k : ℕ) → k < size_of t.length → IsImageUnder (block_at blocks (t.first + k)) t k

-- no other article begins inside the token's, by these marks of first blocks
abbrev pub IsClear : (ℕ → Bool) → terms.Token → Type 0
IsClear starts t = (j : ℕ) → t.first < j → j < t.first + size_of t.length → starts j ≡ false

-- the token is of the article that begins at a block
pub record IsFound (starts : ℕ → Bool) (blocks : List (List ℕ)) (number since end at : ℕ)
    (t : terms.Token) : Type 0 where
  pub here : t.first ≡ at
  pub read : IsRead blocks number since end t
  pub clear : IsClear starts t
  pub only : IsOfToken (block_at blocks at) t

-- no article begins at a block: it has no images, or others begin inside it
abbrev pub IsNone : (ℕ → Bool) → List (List ℕ) → (number since end at : ℕ) → Type 0
IsNone starts blocks number since end at =
    (t : terms.Token) → t.first ≡ at → IsRead blocks number since end t → IsClear starts t → ⊥

-- one of the marks from a block on is of no article
pub record IsMissing (starts : ℕ → Bool) (blocks : List (List ℕ)) (number since end from : ℕ) : Type
    0 where
  pub at : ℕ
  pub behind : from ≤ at
  pub before : at < end
  pub marked : starts at ≡ true
  pub none : IsNone starts blocks number since end at

-- the token is of an article that begins at one of the blocks from one up to another
pub record IsAmong (starts : ℕ → Bool) (blocks : List (List ℕ)) (number since end from to : ℕ)
    (t : terms.Token) : Type 0 where
  pub marked : starts t.first ≡ true
  pub behind : from ≤ t.first
  pub before : t.first < to
  pub found : IsFound starts blocks number since end t.first t

-- a block in which an article begins: its token is listed, and its blocks are marked
pub record IsListed (starts : ℕ → Bool) (blocks : List (List ℕ)) (number since end at : ℕ)
    (tokens : List Token) (kept : List ℕ) : Type 0 where
  pub token : Token
  pub found : IsFound starts blocks number since end at (token_view token)
  pub listed : Contains tokens token
  pub marks : (k : ℕ) → k < size_of token.length → is_marked kept (at + k) ≡ true

-- the block is one of an article's that begins at one of the blocks from one up to another
pub record IsTold (starts : ℕ → Bool) (blocks : List (List ℕ)) (number since end from to at : ℕ)
    : Type 0 where
  pub token : terms.Token
  pub among : IsAmong starts blocks number since end from to token
  pub index : ℕ
  pub inside : index < size_of token.length
  pub here : token.first + index ≡ at

-- each token's place is at this place or behind it, and behind the one before; all are before the
-- end
abbrev pub IsRisingTo : (blocks place end : ℕ) → List terms.Token → Type 0
IsRisingTo blocks place end [] = place ≤ end
IsRisingTo blocks place end (t ∷ ts) =
    (place ≤ on_line blocks t.cycle t.first)
    × IsRisingTo blocks (on_line blocks t.cycle t.first + 1) end ts

-- The articles that begin from one block up to another were read: their tokens are listed behind
-- those that were there, and their blocks are marked.
pub record HasRead (starts : ℕ → Bool) (blocks : List (List ℕ)) (number since end from to : ℕ)
    (old_tokens tokens : List Token) (old_kept kept : List ℕ) : Type 0 where
  pub each : (at : ℕ) → from ≤ at → at < to → starts at ≡ true
      → IsListed starts blocks number since end at tokens kept
  pub listed : (t : Token) → Contains tokens t
      → Contains old_tokens t ⊎ IsAmong starts blocks number since end from to (token_view t)
  pub stay_listed : (t : Token) → Contains old_tokens t → Contains tokens t
  pub told : (j : ℕ) → is_marked kept j ≡ true
      → (is_marked old_kept j ≡ true) ⊎ IsTold starts blocks number since end from to j
  pub stay_marked : (j : ℕ) → is_marked old_kept j ≡ true → is_marked kept j ≡ true
  pub rising : (count place : ℕ)
      → IsRisingTo count place (on_line count since from) (map token_view old_tokens)
      → IsRisingTo count place (on_line count since to) (map token_view tokens)

-- the marks are the bits of the bitmap of so many blocks
abbrev pub AreBits : (heads : List (List ℕ)) → (count : ℕ) → (words : List ℕ) → Type 0
AreBits heads count words = (j : ℕ) → j < count → is_marked words j ≡ has_bit heads j

-- The articles behind the head were read, which are of the cycle before; in the first cycle there
-- are none.
abbrev pub HasReadBehind : (ℕ → Bool) → List (List ℕ) → HeadBlock → List Token
    → (old_kept kept : List ℕ) → Type 0
HasReadBehind starts blocks b tokens old_kept kept =
    ((b.first_cycle < b.cycle)
    × HasRead starts blocks b.number (b.cycle - 1) b.blocks b.head b.blocks [] tokens old_kept kept)
    ⊎ ((b.cycle ≡ b.first_cycle) × ((j : ℕ) → b.head ≤ j → j < b.blocks → starts j ≡ false)
    × (tokens ≡ []) × (kept ≡ old_kept))

-- the articles in front of the head were read behind those, which are of its cycle
abbrev pub HasReadBefore : (ℕ → Bool) → List (List ℕ) → HeadBlock → (old_tokens tokens : List Token)
    → (old_kept kept : List ℕ) → Type 0
HasReadBefore starts blocks b old_tokens tokens old_kept kept =
    HasRead starts blocks b.number b.cycle b.head 0 b.head old_tokens tokens old_kept kept

-- all articles were read: those behind the head, and then those in front of it
pub record HasReadAll (starts : ℕ → Bool) (blocks : List (List ℕ)) (b : HeadBlock)
    (tokens : List Token) (old_kept kept : List ℕ) : Type 0 where
  pub some_tokens : List Token
  pub some_kept : List ℕ
  pub behind : HasReadBehind starts blocks b some_tokens old_kept some_kept
  pub before : HasReadBefore starts blocks b some_tokens tokens some_kept kept

-- All of a device was read that a start asks for: the numbers, the bitmap and the articles; the
-- register has them.
pub record HasStarted (heads blocks : List (List ℕ)) (buffer : Buffer) (stop : ℕ)
    (buffer_state : BufferState) (tokens : List Token) : Type 0 where
  pub numbers : HeadBlock
  pub says : SaysOnly heads buffer numbers
  pub closed : numbers.state ≡ Closed
  pub stop_is : numbers.stop ≡ stop
  pub sound : AreSound numbers
  pub beyond : (j : ℕ) → numbers.blocks ≤ j → j < bits_of_block * bitmap_blocks numbers.blocks
      → has_bit heads j ≡ false
  pub buffer_state_is : numbers_in buffer_state Closed stop ≡ numbers
  pub progress : buffer_state.progress ≡ None
  pub bits : AreBits heads numbers.blocks buffer_state.starts.words.items
  pub some_kept : List ℕ
  pub unkept : (j : ℕ) → is_marked some_kept j ≡ false
  pub all : HasReadAll (is_marked buffer_state.starts.words.items) blocks numbers tokens some_kept
      buffer_state.kept.words.items

-- head block 0 says these numbers of the buffer, which was stopped, and something is wrong with it
pub record IsDamagedBy (heads blocks : List (List ℕ)) (buffer : Buffer) : Type 0 where
  pub numbers : HeadBlock
  pub says : SaysOnly heads buffer numbers
  pub closed : numbers.state ≡ Closed
  pub damaged : IsDamaged heads blocks numbers

-- head block 0 says these numbers of the buffer, which was not stopped
pub record IsOpenBy (heads : List (List ℕ)) (buffer : Buffer) : Type 0 where
  pub numbers : HeadBlock
  pub says : SaysOnly heads buffer numbers
  pub opened : numbers.state ≡ Open

-- why a start is refused, with the only numbers that head block 0 says
abbrev pub IsRefusedBy : (heads blocks : List (List ℕ)) → Buffer → StartError → Type 0
IsRefusedBy heads blocks buffer errors.Memory = Unit {0}
IsRefusedBy heads blocks buffer errors.Device = Unit {0}
IsRefusedBy heads blocks buffer errors.NoHead = (b : HeadBlock) → Says heads buffer b → ⊥
IsRefusedBy heads blocks buffer errors.Unclosed = IsOpenBy heads buffer
IsRefusedBy heads blocks buffer errors.Damaged = IsDamagedBy heads blocks buffer
