-- The blocks are followed by their head blocks.
use Rattle.std.proofs.Common.{arith}
use Rattle.file_blocks.proofs.fitted.size_of.Goals as goal

pub returns : goal.returns
returns c = omega (arith, c.from.ensures, c.from-2.ensures, c.head_count.ensures)
