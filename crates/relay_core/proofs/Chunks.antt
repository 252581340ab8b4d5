-- What was read of a block is what the buffer set found.
use Rattle.std.proofs.Common.{◌≡◌, ℕ, List, Ok, Err, refl, sym, ap, subst, ◌∙◌}
use Rattle.std.specs.Prelude.{Result}
use Rattle.article_fetch.specs.Chunks.{chunk_view}
use Rattle.article_fetch.specs.declared.chunk.Chunk.{Chunk}
use Rattle.article_fetch.specs.declared.chunk.Chunk.TheVariants as chunks
use Rattle.block_shelf.specs.Reading.{BlockRead, IsFoundOf, ReadsOn}
use Rattle.block_shelf.specs.Reading as blocks
use Rattle.block_shelf.specs.declared.buffer_set.BufferSet.{BufferSet}
use Rattle.block_shelf.specs.Leaving.{honestly}
use Rattle.cyc_block.specs.declared.store.BlockStore.{Ghosts}
use Rattle.cyc_buffer.specs.declared.answers.BufError.{BufError}
use Rattle.cyc_buffer.specs.declared.answers.Fault.{Fault}
use Rattle.cyc_buffer.specs.declared.answers.FaultKind.TheVariants as kinds
use Rattle.cyc_buffer.specs.declared.answers.Found.{Found}
use Rattle.cyc_buffer.specs.declared.answers.Found.TheVariants as found
use Rattle.news_terms.specs.Token.{Token}
use Rattle.relay_model.specs.Fetches as fetches
use Rattle.relay_model.specs.Fetches.{Fetched, fetched}
use Rattle.relay_model.specs.State.{State}
use Rattle.relay_model.specs.Terms.{Terms}
use Rattle.relay_core.specs.Reading.{ChunkRead, HasFound, HasNotFound, IsChunkOf, ReadsChunk}
use Rattle.relay_core.specs.Reading.{read_view}

-- what the slice has of what was found is what the definitions find
chunk_is : (w : Terms) (σ : State) (token : Token) (k : ℕ) (one : Found) (slice : List ℕ)
    (what : Fetched) → IsFoundOf w σ token k one slice what
    → IsChunkOf w σ token k (chunk_view (Ok one) slice) what
chunk_is w σ token k (found.Chunk n) slice (fetches.Article text) is = is.1
chunk_is w σ token k (found.Chunk n) slice fetches.Gone is = absurd is
chunk_is w σ token k (found.Chunk n) slice fetches.NotKnown is = absurd is
chunk_is w σ token k (found.Chunk n) slice fetches.NotRead is = absurd is
chunk_is w σ token k (found.Gone front) slice fetches.Gone is = is
chunk_is w σ token k (found.Gone front) slice (fetches.Article text) is = absurd is
chunk_is w σ token k (found.Gone front) slice fetches.NotKnown is = absurd is
chunk_is w σ token k (found.Gone front) slice fetches.NotRead is = absurd is
chunk_is w σ token k found.Unknown slice fetches.NotKnown is = tt
chunk_is w σ token k found.Unknown slice (fetches.Article text) is = absurd is
chunk_is w σ token k found.Unknown slice fetches.Gone is = absurd is
chunk_is w σ token k found.Unknown slice fetches.NotRead is = absurd is

module _ {S : Type 0} {g : Ghosts S} (token : Token) (k : ℕ) (old : BufferSet S g)
    (result : Result Found BufError) (slice : List ℕ) (new : BufferSet S g) where
  -- the chunk by what a read gives
  abbrev chunk_by : Result Found BufError → Chunk
  chunk_by one = chunk_view (read_view one) slice

  -- a chunk is what the buffer set's read gave
  pub chunk_read : (read : Chunk) → read ≡ chunk_by result
      → ReadsOn token k old result slice new → ReadsChunk token k old read new
  chunk_read read shows reads leaving w σ openings failures keeps within =
      by (reads (honestly leaving) w σ openings failures keeps within)
    where
      by : BlockRead (honestly leaving) w σ openings failures token k result slice new
          → ChunkRead leaving w σ openings failures token k read new
      by (blocks.HasFound one said texts trusted decides nowhere) =
          let P : Chunk → Type 0 = λ c. IsChunkOf w σ token k c (fetched w σ token) in
          HasFound texts (subst P (sym (shows ∙ ap chunk_by said))
          (chunk_is w σ token k one slice (fetched w σ token) (trusted refl)))
      by (blocks.HasNotFound e later said at_fault texts failed undecided somewhere) =
          let fault : Fault = record {
            kind = kinds.Read;
            buffer = token.buffer;
            length = token.length;
          } in
          let is : read ≡ chunks.Device fault =
          shows ∙ ap chunk_by said ∙ ap (λ (x : BufError). chunk_by (Err x)) at_fault in
          HasNotFound fault later is refl texts failed undecided
