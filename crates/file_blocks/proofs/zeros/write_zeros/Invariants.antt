use Rattle.std.proofs.Common.{◌≡◌, ◌-◌, ◌≤◌}
use Rattle.file_blocks.proofs.ZeroLemmas.{ZeroedTo}
use Rattle.file_blocks.proofs.zeros.write_zeros.Given as goal

-- zeros were written so far, and no others changed
abbrev pub invariant-loop-at : goal.invariant-loop-at
invariant-loop-at g l = record {
  begun : l.from ≤ l.at;
  within : l.at ≤ l.to;
  zeroed : g.F.RunFile.honest l.fn.file
      → ZeroedTo l.from l.at (g.F.RunFile.held l.fn.file) (g.F.RunFile.held l.file);
  honest : g.F.RunFile.honest l.fn.file → g.F.RunFile.honest l.file;
  failures : g.F.RunFile.failures l.file ≡ g.F.RunFile.failures l.fn.file;
}

abbrev pub decreases-loop-at : goal.decreases-loop-at
decreases-loop-at g l = l.to - l.at
