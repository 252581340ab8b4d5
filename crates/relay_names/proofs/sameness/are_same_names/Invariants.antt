use Rattle.std.proofs.Common.{◌≡◌, take}
use Rattle.relay_names.proofs.sameness.are_same_names.Given as goal

-- the names so far are the same
abbrev pub invariant-loop-i : goal.invariant-loop-i
invariant-loop-i l = take l.i l.a ≡ take l.i l.b
