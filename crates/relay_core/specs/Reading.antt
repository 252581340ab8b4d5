-- What was read of a block, in the words of the relay's fetches (docs/PROTOCOL.md, Reading).
use Rattle.std.specs.Prelude.{◌≡◌, ℕ, ◌<◌, max, None, Option, Result, Ok, Err, Bool}
use Rattle.article_fetch.specs.declared.chunk.Chunk.{Chunk}
use Rattle.article_fetch.specs.declared.chunk.Chunk.TheVariants as chunks
use Rattle.block_shelf.specs.Calls.{IsFaultAt}
use Rattle.block_shelf.specs.Keeping.{KeepsTexts}
use Rattle.block_shelf.specs.Openings.{Opening}
use Rattle.block_shelf.specs.Reading.{IsFrontFor}
use Rattle.block_shelf.specs.declared.buffer_set.BufferSet.{BufferSet}
use Rattle.block_shelf.specs.Leaving.{honestly}
use Rattle.cyc_block.specs.declared.store.BlockStore.{Ghosts}
use Rattle.cyc_buffer.specs.declared.answers.BufError.{BufError}
use Rattle.cyc_buffer.specs.declared.answers.BufError.TheVariants as errors
use Rattle.cyc_buffer.specs.declared.answers.Fault.{Fault}
use Rattle.cyc_buffer.specs.declared.answers.FaultKind.TheVariants as kinds
use Rattle.cyc_buffer.specs.declared.answers.Found.{Found}
use Rattle.cyc_buffer.specs.declared.answers.Found.TheVariants as found
use Rattle.news_terms.specs.BlockImage.{chunk}
use Rattle.news_terms.specs.Places.{size_of}
use Rattle.news_terms.specs.Token.{Token}
use Rattle.relay_model.specs.Fetches as fetches
use Rattle.relay_model.specs.Fetches.{Fetched, decided, fetched}
use Rattle.relay_model.specs.State.{State}
use Rattle.relay_model.specs.Terms.{Terms}
use Rattle.relay_model.specs.World.{HasFailedAt}

-- what a read found, or the fault of the device; nothing else refuses a read: it would find nothing
abbrev pub read_view : Result Found BufError → Result Found Fault
read_view (Ok one) = Ok one
read_view (Err (errors.Device fault)) = Err fault
read_view (Err other) = Ok found.Unknown

-- what was read of block k is that of a fetch of the token that finds this: a chunk of the text, or
-- that it is gone, by the front of the token's buffer
abbrev pub IsChunkOf : Terms → State → Token → (k : ℕ) → Chunk → Fetched → Type 0
IsChunkOf w σ token k (chunks.Found octets) (fetches.Article text) = octets ≡ chunk k text
IsChunkOf w σ token k (chunks.Gone front) fetches.Gone = IsFrontFor w σ token front
IsChunkOf w σ token k chunks.Unknown fetches.NotKnown = Unit {0}
IsChunkOf w σ token k other found = ⊥

-- what a read of block k does, over stores that are honest: it finds what a fetch finds, or the
-- device failed, which was asked only where the numbers don't decide, and its fault is of a read of
-- the token's article
pub data ChunkRead {S : Type 0} {g : Ghosts S} (leaving : Bool) (w : Terms) (σ : State)
    (openings : ℕ → Option Opening) (failures : ℕ → ℕ) (token : Token) (k : ℕ) (read : Chunk)
    (new : BufferSet S g)
    : Type 0 where
  HasFound : KeepsTexts (honestly leaving) new w σ.begun σ.kept openings failures
      → IsChunkOf w σ token k read (fetched w σ token)
      → ChunkRead leaving w σ openings failures token k read new
  HasNotFound : (fault : Fault) (later : ℕ → ℕ) → read ≡ chunks.Device fault
      → IsFaultAt kinds.Read token (errors.Device fault)
      → KeepsTexts (honestly leaving) new w σ.begun σ.kept openings later
      → HasFailedAt token.buffer failures later → decided w σ token ≡ None
      → ChunkRead leaving w σ openings failures token k read new

-- block k of what lies under a token is read; the article has a block k, or k is 0
abbrev pub ReadsChunk : {S : Type 0} {g : Ghosts S} → Token → (k : ℕ) → (old : BufferSet S g)
    → Chunk → (new : BufferSet S g) → Type 0
ReadsChunk token k old read new =
    (leaving : Bool) (w : Terms) (σ : State) (openings : ℕ → Option Opening) (failures : ℕ → ℕ)
    → KeepsTexts (honestly leaving) old w σ.begun σ.kept openings failures
    → k < max 1 (size_of token.length)
    → ChunkRead leaving w σ openings failures token k read new
