-- What is no image is no block of any article.
use Rattle.cyc_buffer.specs.Stopped.{block_under}
use Rattle.cyc_buffer.proofs.pieces.said_by.Goals as goal

pub returns-in_default-clause-none : goal.returns-in_default-clause-none
returns-in_default-clause-none c buffer t k piece =
    c.in_default.ensures.read (block_under t k piece.image.payload) piece.image.block
    piece.image.image
