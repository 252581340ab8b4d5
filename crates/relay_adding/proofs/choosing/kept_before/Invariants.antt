use Rattle.std.proofs.Common.{◌≡◌, ◌<◌, ℕ, Some, false, slice_get}
use Rattle.relay_adding.proofs.choosing.kept_before.Given as goal

-- none of those so far has zeros alone
abbrev pub invariant-loop-number : goal.invariant-loop-number
invariant-loop-number l = (b : ℕ) → b < l.number → slice_get l.blank b ≡ Some false
