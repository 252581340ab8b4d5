-- When a buffer agrees with a history: what its register says and, where its store is honest, what
-- the blocks hold.
use Rattle.std.specs.Prelude.{◌≡◌, ℕ, ◌+◌, ◌<◌, Bool, true, List, length, take, Option, None, Some}
use Rattle.cyc_block.specs.Store.{block_at}
use Rattle.cyc_block.specs.declared.store.BlockStore.{Ghosts}
use Rattle.cyc_buffer.specs.History.{Article, Writing, History, finished_at}
use Rattle.cyc_buffer.specs.Progress.{IsTheOpen, written_of, has_failed, CanWriteOn, CanFinishOn}
use Rattle.cyc_buffer.specs.BufferState.{Keeps, IsUnpassed}
use Rattle.cyc_token.specs.declared.Token.{Token}
use Rattle.cyc_buffer.specs.declared.buffer.Buffer.{Buffer}
use Rattle.cyc_buffer.specs.declared.buffer_state.Open.{Open}
use Rattle.cyc_buffer.specs.declared.buffer_state.Progress.{Progress}
use Rattle.cyc_buffer.specs.declared.buffer_state.BufferState.{BufferState}
use Rattle.news_terms.specs.BlockImage.{Block, block_of, block_image, chunk}
use Rattle.news_terms.specs.Places.{size_of}

-- the store of a buffer
abbrev pub store_of : {S : Type 0} {g : Ghosts S} → Buffer S g → S
store_of buffer = buffer.store

-- what a buffer keeps in memory
abbrev pub buffer_state_of : {S : Type 0} {g : Ghosts S} → Buffer S g → BufferState
buffer_state_of buffer = buffer.buffer_state

-- block k of an open write
abbrev pub open_block : Progress → Writing → (k : ℕ) → Block
open_block p w k = record {
  cycle = p.token.cycle;
  first = p.token.first;
  index = k;
  article_length = w.octets;
  class = w.class;
  payload = chunk k w.text;
}

-- the blocks hold what is written of the open write
abbrev pub HoldsOpen : List (List ℕ) → Option Progress → Option Writing → Type 0
HoldsOpen blocks None writing = Unit {0}
HoldsOpen blocks (Some p) None = Unit {0}
HoldsOpen blocks (Some p) (Some w) =
    (k : ℕ) → k < w.blocks → block_at blocks (p.token.first + k) ≡ block_image (open_block p w k)

-- the blocks that aren't passed hold what was finished, and those of the open write what is written
pub record Holds (blocks : List (List ℕ)) (r : BufferState) (h : History) : Type 0 where
  pub articles : (cycle first k : ℕ) (article : Article)
      → finished_at h.buffer h.begins cycle first ≡ Some article
      → k < size_of (length article.text) → IsUnpassed r.line cycle (first + k)
      → block_at blocks (first + k)
      ≡ block_image (block_of cycle first article.class article.text k)
  pub open_one : HoldsOpen blocks r.progress h.writing

-- The buffer agrees with the history; where its store is trusted, the store is honest, and its
-- blocks hold what they should.
pub record Agrees {S : Type 0} {g : Ghosts S} (trusted : Bool) (buffer : Buffer S g) (h : History)
    : Type 0 where
  pub keeps : Keeps buffer.buffer_state h
  pub honest : trusted ≡ true → g.honest buffer.store
  pub holds : trusted ≡ true → Holds (g.blocks buffer.store) buffer.buffer_state h

-- each history that the old buffer agrees with is followed by one that the new buffer agrees with
abbrev pub Follows : {S : Type 0} {g : Ghosts S} → (History → History)
    → Buffer S g → Buffer S g → Type 0
Follows step old new =
    (trusted : Bool) (h : History) → Agrees trusted old h → Agrees trusted new (step h)

-- this is the open write of the buffer
abbrev pub Owns : {S : Type 0} {g : Ghosts S} → Buffer S g → Open → Type 0
Owns buffer write = IsTheOpen write buffer.buffer_state.progress

-- the blocks of its open write that are written
abbrev pub blocks_written : {S : Type 0} {g : Ghosts S} → Buffer S g → ℕ
blocks_written buffer = written_of buffer.buffer_state.progress

-- a write of a block of its open write has failed
abbrev pub is_broken : {S : Type 0} {g : Ghosts S} → Buffer S g → Bool
is_broken buffer = has_failed buffer.buffer_state.progress

-- the token that the article of an open write is finished under
abbrev pub token_of : Open → Token
token_of write = write.token

-- the octets of the article of an open write
abbrev pub length_of : Open → ℕ
length_of write = write.token.length

-- what the history says of its open write is so of the buffer's, and this is its handle
pub record IsOpenAs {S : Type 0} {g : Ghosts S} (buffer : Buffer S g) (write : Open) (w : Writing)
    : Type 0 where
  pub owned : Owns buffer write
  pub broken : is_broken buffer ≡ w.broken
  pub blocks : blocks_written buffer ≡ w.blocks
  pub octets : length_of write ≡ w.octets

-- the next block of the text can be written to the buffer's open write
abbrev pub CanWrite : {S : Type 0} {g : Ghosts S} → Buffer S g → Open → List ℕ → Type 0
CanWrite buffer write text = CanWriteOn buffer.buffer_state.progress write text

-- the buffer's open write can be finished
abbrev pub CanFinish : {S : Type 0} {g : Ghosts S} → Buffer S g → Open → Type 0
CanFinish buffer write = CanFinishOn buffer.buffer_state.progress write

-- the text begins with what is written of the open write
abbrev pub ContinuesIn : List ℕ → Option Writing → Type 0
ContinuesIn text None = Unit {0}
ContinuesIn text (Some w) = take (length w.text) text ≡ w.text

-- the text begins with what is written of the history's open write
abbrev pub Continues : List ℕ → History → Type 0
Continues text h = ContinuesIn text h.writing
