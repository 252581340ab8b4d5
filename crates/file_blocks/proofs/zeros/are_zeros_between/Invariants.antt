use Rattle.std.proofs.Common.{◌≡◌, ◌-◌, ◌≤◌, length}
use Rattle.file_blocks.specs.Zeros.{AreZeros}
use Rattle.file_blocks.specs.declared.zeros.TheConstants.{PIECE}
use Rattle.file_blocks.proofs.zeros.are_zeros_between.Given as goal

-- the octets so far are zeros, and the file holds what it held
abbrev pub invariant-loop-at : goal.invariant-loop-at
invariant-loop-at g l = record {
  begun : l.from ≤ l.at;
  within : l.at ≤ l.to;
  room : length l.room ≡ PIECE;
  zeros : g.F.RunFile.honest l.fn.file → AreZeros l.from l.at (g.F.RunFile.held l.fn.file);
  same : g.F.RunFile.honest l.fn.file → g.F.RunFile.held l.file ≡ g.F.RunFile.held l.fn.file;
  honest : g.F.RunFile.honest l.fn.file → g.F.RunFile.honest l.file;
  failures : g.F.RunFile.failures l.file ≡ g.F.RunFile.failures l.fn.file;
}

abbrev pub decreases-loop-at : goal.decreases-loop-at
decreases-loop-at g l = l.to - l.at
