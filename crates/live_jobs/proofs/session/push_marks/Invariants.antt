use Rattle.std.proofs.Common.{◌≡◌}
use lib.Dec.{ltb}
use Rattle.live_jobs.specs.Seats.{PassesFit, handed_of}
use Rattle.live_jobs.proofs.session.push_marks.Given as goal

abbrev pub invariant-loop-group : goal.invariant-loop-group
invariant-loop-group g l = PassesFit l.channels l.end (λ k. ltb k l.group) l.passes.items
    × (handed_of l.passes.items ≡ handed_of l.fn.passes.items)
