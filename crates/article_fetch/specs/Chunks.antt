-- What was read of a block, as a fetch is handed it.
use Rattle.std.specs.Prelude.{ℕ, List, take, Result, Ok, Err}
use Rattle.article_fetch.specs.declared.chunk.Chunk.{Chunk}
use Rattle.article_fetch.specs.declared.chunk.Chunk.TheVariants as chunks
use Rattle.cyc_buffer.specs.declared.answers.Fault.{Fault}
use Rattle.cyc_buffer.specs.declared.answers.Found.{Found}
use Rattle.cyc_buffer.specs.declared.answers.Found.TheVariants as found

-- what a read found of a block, with its octets at the front of these: where the article is gone
-- the front that the read gave, and where the device failed its fault
abbrev pub chunk_view : Result Found Fault → List ℕ → Chunk
chunk_view (Ok (found.Chunk n)) slice = chunks.Found (take n slice)
chunk_view (Ok (found.Gone front)) slice = chunks.Gone front
chunk_view (Ok found.Unknown) slice = chunks.Unknown
chunk_view (Err fault) slice = chunks.Device fault
