-- What each reading of a start comes to (docs/PROTOCOL.md, Clean stop and start): what the private
-- functions of articles.rt, bits.rt and stopped.rt promise, each in one record.
use Rattle.std.specs.Prelude.{◌≡◌, ℕ, ◌+◌, ◌*◌, ◌<◌, ◌≤◌, false, List, length, None, Result}
use Rattle.std.specs.Prelude.{IfErr, IfOk, OnOk, Vec}
use Rattle.std.specs.List.{Contains}
use Rattle.std.specs.declared.alloc.Global.{Global}
use Rattle.news_terms.specs.HeadBlocks.{Closed, bitmap_blocks, bits_of_block, head_blocks}
use Rattle.news_terms.specs.Places.{Buffer, size_of}
use Rattle.cyc_block.specs.Heads.{head_view, state_view}
use Rattle.cyc_block.specs.Store.{block_at}
use Rattle.cyc_block.specs.declared.head.HeadNumbers.{HeadNumbers}
use Rattle.cyc_block.specs.declared.store.BlockStore.{Ghosts}
use Rattle.cyc_token.specs.Token.{token_view}
use Rattle.cyc_token.specs.declared.Token.{Token}
use Rattle.cyc_buffer.specs.Marks.{is_marked}
use Rattle.cyc_buffer.specs.Reads.{AreBits, AreSound, HasRead, HasReadAll, HasReadBehind}
use Rattle.cyc_buffer.specs.Reads.{HasStarted, IsBeyond, IsBlamed, IsDamageBy, IsFound, IsMissing}
use Rattle.cyc_buffer.specs.Reads.{IsNone, IsOfToken, IsRead, IsRefusedBy, SaysOnly, StaysHeld}
use Rattle.cyc_buffer.specs.Remembered.{AreWithin, ListsStarts}
use Rattle.cyc_buffer.specs.Starting.{blocks_in}
use Rattle.cyc_buffer.specs.Stopped.{IsDamaged, IsImageUnder, has_bit}
use Rattle.cyc_buffer.specs.declared.answers.StartError.{StartError}
use Rattle.cyc_buffer.specs.declared.articles.Stretch.{Stretch}
use Rattle.cyc_buffer.specs.declared.stopped.Stopped.{Stopped}

-- A reading leaves all of a store as it was, and a refusal says Device where the device failed, and
-- only there.
pub record ReadsStore {S A : Type 0} (g : Ghosts S) (old new : S) (result : Result A StartError)
    : Type 0 where
  pub held : StaysHeld g old new
  pub failed : IfErr result (IsBlamed g old new)
  pub no_failure : OnOk result (g.failures new ≡ g.failures old)

-- the octets of a block are read by one call: those that are there in an honest store
pub record ReadsOctets {S : Type 0} (g : Ghosts S) (old new : S) (there : List ℕ)
    (result : Result (List ℕ) StartError)
    : Type 0 where
  pub octets : g.honest old → IfOk result (λ octets. octets ≡ there)
  pub device : IfErr result (IsDamageBy ⊥)
  pub calls : g.calls new ≡ g.calls old + 1
  pub reads : ReadsStore g old new result

-- the blocks of the article under a token behind its first are images of it, each read once; damage
-- is that one of its blocks isn't
pub record ReadsImages {S A : Type 0} (g : Ghosts S) (old new : S) (token : Token)
    (result : Result A StartError)
    : Type 0 where
  pub images : g.honest old → OnOk result ((k : ℕ) → 1 ≤ k → k < size_of token.length
      → IsImageUnder (block_at (g.blocks old) (token.first + k)) (token_view token) k)
  pub refused : g.honest old → IfErr result (IsDamageBy (((k : ℕ) → k < size_of token.length
      → IsImageUnder (block_at (g.blocks old) (token.first + k)) (token_view token) k)
      → ⊥))
  pub calls : OnOk result (g.calls new + 1 ≡ g.calls old + size_of token.length)
  pub reads : ReadsStore g old new result

-- the token of the article that begins at a block, each block of which is read once; damage is that
-- none begins there
pub record ReadsArticle {S : Type 0} (g : Ghosts S) (old new : S) (stretch : Stretch) (first : ℕ)
    (result : Result Token StartError)
    : Type 0 where
  pub read : g.honest old → IfOk result (λ token.
      IsRead (g.blocks old) stretch.number stretch.cycle stretch.end (token_view token))
  pub only : g.honest old → IfOk result (λ token.
      IsOfToken (block_at (g.blocks old) first) (token_view token))
  pub place : IfOk result (λ token. (token.first ≡ first)
      × (token.first + size_of token.length ≤ stretch.end))
  pub refused : g.honest old → IfErr result (IsDamageBy (
      IsNone (λ j. false) (g.blocks old) stretch.number stretch.cycle stretch.end first))
  pub calls : IfOk result (λ token. g.calls new ≡ g.calls old + size_of token.length)
  pub reads : ReadsStore g old new result

-- the same, where by these marks no other article begins inside it
pub record ReadsWhole {S : Type 0} (g : Ghosts S) (old new : S) (words : List ℕ)
    (stretch : Stretch) (first : ℕ) (result : Result Token StartError)
    : Type 0 where
  pub found : g.honest old → IfOk result (λ token. IsFound (is_marked words) (g.blocks old)
      stretch.number stretch.cycle stretch.end first (token_view token))
  pub place : IfOk result (λ token. (token.first ≡ first)
      × (token.first + size_of token.length ≤ stretch.end))
  pub refused : g.honest old → IfErr result (IsDamageBy (
      IsNone (is_marked words) (g.blocks old) stretch.number stretch.cycle stretch.end first))
  pub calls : IfOk result (λ token. g.calls new ≡ g.calls old + size_of token.length)
  pub reads : ReadsStore g old new result

-- the articles that begin from a block up to the stretch's end are read: their tokens are listed
-- and their blocks marked; damage is that a mark is of none
pub record ReadsArticles {S A : Type 0} (g : Ghosts S) (old new : S) (words : List ℕ)
    (stretch : Stretch) (from : ℕ) (old_tokens tokens : List Token) (old_kept kept : List ℕ)
    (result : Result A StartError)
    : Type 0 where
  pub read : g.honest old → OnOk result (HasRead (is_marked words) (g.blocks old) stretch.number
      stretch.cycle stretch.end from stretch.end old_tokens tokens old_kept kept)
  pub refused : g.honest old → IfErr result (IsDamageBy (
      IsMissing (is_marked words) (g.blocks old) stretch.number stretch.cycle stretch.end from))
  -- over any store each block from there where an article begins is a listed one's first
  pub listed : OnOk result (ListsStarts from stretch.end (is_marked words) tokens)
  pub stay_listed : OnOk result ((t : Token) → Contains old_tokens t → Contains tokens t)
  pub within : OnOk result ((blocks : ℕ) → stretch.end ≤ blocks
      → AreWithin blocks old_tokens → AreWithin blocks tokens)
  pub kept_room : length kept ≡ length old_kept
  pub calls : OnOk result (g.calls new + blocks_in old_tokens ≡ g.calls old + blocks_in tokens)
  pub reads : ReadsStore g old new result

-- the bitmap of so many blocks is read into their marks; damage is a bit past the last of them
pub record ReadsBitmap {S A : Type 0} (g : Ghosts S) (old new : S) (blocks : ℕ)
    (old_words words : List ℕ) (result : Result A StartError)
    : Type 0 where
  pub bits : g.honest old → OnOk result ((j : ℕ) → j < blocks
      → is_marked words j ≡ has_bit (g.heads old) j)
  pub none_beyond : g.honest old → OnOk result ((j : ℕ) → blocks ≤ j
      → j < bits_of_block * bitmap_blocks blocks → has_bit (g.heads old) j ≡ false)
  pub refused : g.honest old → IfErr result (IsDamageBy (IsBeyond (g.heads old) blocks))
  pub room : length words ≡ length old_words
  pub calls : OnOk result (g.calls new ≡ g.calls old + bitmap_blocks blocks)
  pub reads : ReadsStore g old new result

-- the numbers that head block 0 says, where it is this buffer's; it is read once
pub record ReadsNumbers {S : Type 0} (g : Ghosts S) (old new : S) (buffer : Buffer)
    (result : Result HeadNumbers StartError)
    : Type 0 where
  pub says : g.honest old → IfOk result (λ numbers.
      SaysOnly (g.heads old) buffer (head_view numbers))
  pub refused : g.honest old → IfErr result (IsRefusedBy (g.heads old) (g.blocks old) buffer)
  pub blocks : IfOk result (λ numbers. numbers.blocks ≡ length (g.blocks old))
  pub calls : OnOk result (g.calls new ≡ g.calls old + 1)
  pub reads : ReadsStore g old new result

-- the same, where the buffer was stopped and they can be a buffer's
pub record ReadsClosed {S : Type 0} (g : Ghosts S) (old new : S) (buffer : Buffer)
    (result : Result HeadNumbers StartError)
    : Type 0 where
  pub closed : IfOk result (λ numbers. state_view numbers.state ≡ Closed)
  pub sound : IfOk result (λ numbers. AreSound (head_view numbers))
  pub numbers : ReadsNumbers g old new buffer result

-- the articles behind the head are read, by these numbers and marks, and their blocks marked
pub record ReadsBehind {S : Type 0} (g : Ghosts S) (old new : S) (numbers : HeadNumbers)
    (words old_kept kept : List ℕ) (result : Result (Vec Token Global) StartError)
    : Type 0 where
  pub read : g.honest old → IfOk result (λ tokens. HasReadBehind (is_marked words) (g.blocks old)
      (head_view numbers) tokens.items old_kept kept)
  pub refused : g.honest old → (heads : List (List ℕ)) → AreBits heads numbers.blocks words
      → IfErr result (IsDamageBy (IsDamaged heads (g.blocks old) (head_view numbers)))
  pub listed : IfOk result (λ tokens.
      ListsStarts numbers.head numbers.blocks (is_marked words) tokens.items)
  pub within : IfOk result (λ tokens. AreWithin numbers.blocks tokens.items)
  pub kept_room : length kept ≡ length old_kept
  pub calls : IfOk result (λ tokens. g.calls new ≡ g.calls old + blocks_in tokens.items)
  pub reads : ReadsStore g old new result

-- all articles are read, by these numbers and marks, and their blocks marked
pub record ReadsAll {S : Type 0} (g : Ghosts S) (old new : S) (numbers : HeadNumbers)
    (words old_kept kept : List ℕ) (result : Result (Vec Token Global) StartError)
    : Type 0 where
  pub read : g.honest old → IfOk result (λ tokens. HasReadAll (is_marked words) (g.blocks old)
      (head_view numbers) tokens.items old_kept kept)
  pub refused : g.honest old → (heads : List (List ℕ)) → AreBits heads numbers.blocks words
      → IfErr result (IsDamageBy (IsDamaged heads (g.blocks old) (head_view numbers)))
  pub listed : IfOk result (λ tokens. ListsStarts 0 numbers.blocks (is_marked words) tokens.items)
  pub within : IfOk result (λ tokens. AreWithin numbers.blocks tokens.items)
  pub kept_room : length kept ≡ length old_kept
  pub calls : IfOk result (λ tokens. g.calls new ≡ g.calls old + blocks_in tokens.items)
  pub reads : ReadsStore g old new result

-- the buffer that was stopped on a store is read, each head block and each block of a listed
-- article once; or what is wrong with it
pub record ReadsStopped {S : Type 0} (g : Ghosts S) (old new : S) (buffer : Buffer)
    (result : Result Stopped StartError)
    : Type 0 where
  pub started : g.honest old → IfOk result (λ stopped. HasStarted (g.heads old) (g.blocks old)
      buffer stopped.stop stopped.buffer_state stopped.tokens.items)
  pub refused : g.honest old → IfErr result (IsRefusedBy (g.heads old) (g.blocks old) buffer)
  pub count : IfOk result (λ stopped. stopped.buffer_state.line.blocks ≡ length (g.blocks old))
  pub idle : IfOk result (λ stopped. stopped.buffer_state.progress ≡ None)
  pub listed : IfOk result (λ stopped. ListsStarts 0 (length (g.blocks old))
      (is_marked stopped.buffer_state.starts.words.items) stopped.tokens.items)
  pub within : IfOk result (λ stopped. AreWithin (length (g.blocks old)) stopped.tokens.items)
  pub calls : IfOk result (λ stopped. g.calls new
      ≡ g.calls old + head_blocks (length (g.blocks old)) + blocks_in stopped.tokens.items)
  pub reads : ReadsStore g old new result
