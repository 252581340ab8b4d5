use Rattle.std.proofs.Common.{◌≡◌, ◌<◌, ℕ, get_or}
use Rattle.cyc_block.proofs.image.are_zeros.Given as goal

-- each octet is 0 so far
abbrev pub invariant-loop-octet : goal.invariant-loop-octet
invariant-loop-octet l = (k : ℕ) → k < l.octet-index → (d : ℕ) → get_or l.octets k d ≡ 0
