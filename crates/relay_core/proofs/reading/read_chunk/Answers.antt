use Rattle.std.proofs.Common.{ap, ◌∙◌, Result}
use Rattle.article_fetch.specs.Chunks.{chunk_view}
use Rattle.cyc_buffer.specs.declared.answers.Fault.{Fault}
use Rattle.cyc_buffer.specs.declared.answers.Found.{Found}
use Rattle.cyc_token.specs.Token.{token_view}
use Rattle.relay_core.proofs.Chunks.{chunk_read}
use Rattle.relay_core.proofs.reading.read_chunk.Goals as goal

-- the chunk is what the buffer set's read gave
pub returns : goal.returns
returns g c =
    let read = c.read-found in
    chunk_read (token_view c.args.token.now) c.args.k c.args.buffer_set.now read.result
    read.new.chunk read.new.self c.of_read.result
    (c.of_read.ensures
    ∙ ap (λ (r : Result Found Fault). chunk_view r read.new.chunk) c.found_or_fault.ensures)
    read.ensures.found
