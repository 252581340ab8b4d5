use Rattle.std.proofs.Common.{◌≡◌, ◌≤◌, ◌<◌, ℕ, Some, true, slice_get}
use Rattle.relay_adding.proofs.choosing.is_before_kept.Given as goal

-- each of those so far has zeros alone
abbrev pub invariant-loop-number : goal.invariant-loop-number
invariant-loop-number l = (b : ℕ) → l.first ≤ b → b < l.number → slice_get l.blank b ≡ Some true
