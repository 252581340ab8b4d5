use Rattle.std.proofs.Common.{◌≡◌, length}
use Rattle.relay_live.proofs.auditing.read_fronts.Given as goal

-- there is a front of each buffer so far
abbrev pub invariant-loop-buffer : goal.invariant-loop-buffer
invariant-loop-buffer g l = length l.fronts.items ≡ l.buffer-index
