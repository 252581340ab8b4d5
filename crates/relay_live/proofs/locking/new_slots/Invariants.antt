use Rattle.std.proofs.Common.{◌≡◌, ◌≤◌, length}
use Rattle.std.specs.Prelude.{vec_capacity}
use Rattle.relay_live.proofs.locking.new_slots.Given as goal

-- a slot for each end so far, and room for the others
abbrev pub invariant-loop-end : goal.invariant-loop-end
invariant-loop-end g l = (length l.slots.items ≡ l._end) × (l.ends ≤ vec_capacity l.slots)
