use Rattle.std.proofs.Common.{◌≡◌, ◌≤◌, ◌*◌, ◌^◌, take}
use Rattle.relay_explain.specs.Sums as terms
use Rattle.relay_explain.proofs.sums.disk_of.Given as goal

-- what is added up is of those so far, and no more than so much for each
abbrev pub invariant-loop-buffer : goal.invariant-loop-buffer
invariant-loop-buffer l =
    (l.octets ≡ terms.disk_of (take l.buffer-index l.buffers))
    × (l.octets ≤ l.buffer-index * 2 ^ 64)
