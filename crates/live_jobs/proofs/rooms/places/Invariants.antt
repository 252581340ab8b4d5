use Rattle.std.proofs.Common.{◌≡◌, ◌≤◌, length}
use Rattle.std.specs.Prelude.{vec_capacity}
use Rattle.live_jobs.proofs.rooms.places.Given as goal

abbrev pub invariant-loop-group : goal.invariant-loop-group
invariant-loop-group g l =
    (length l.all.items ≡ l._group) × (l.groups ≤ vec_capacity l.all)
