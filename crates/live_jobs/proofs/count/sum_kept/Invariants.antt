use Rattle.std.proofs.Common.{◌≡◌, map, take}
use Rattle.live_jobs.specs.Gathered.{kept_by_all}
use Rattle.live_jobs.proofs.count.sum_kept.Given as goal

abbrev pub invariant-loop-group : goal.invariant-loop-group
invariant-loop-group g l =
    l.accepted ≡ kept_by_all g.O.Outcome.kept
    (take l.group (map (λ w. w.finished.items) l.writers))
