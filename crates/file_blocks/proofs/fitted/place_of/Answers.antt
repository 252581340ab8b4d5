-- A block is 512 octets behind the one before.
use Rattle.std.proofs.Common.{arith}
use Rattle.file_blocks.proofs.fitted.place_of.Goals as goal

pub returns : goal.returns
returns c = omega (arith, c.from.ensures)
