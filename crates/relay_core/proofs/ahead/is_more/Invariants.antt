use Rattle.std.proofs.Common.{◌≡◌, ◌-◌, length, map}
use Rattle.cyc_buffer.specs.Filled.{filled_view}
use Rattle.relay_core.specs.Ahead.{all_stored}
use Rattle.relay_core.proofs.ahead.is_more.Given as goal

-- what is above all that is left is above all
abbrev pub invariant-loop-one : goal.invariant-loop-one
invariant-loop-one l =
    l.above - all_stored (map filled_view l.left)
    ≡ l.gained - all_stored (map filled_view l.filled)

abbrev pub decreases-loop-one : goal.decreases-loop-one
decreases-loop-one l = length l.left
