use Rattle.std.proofs.Common.{◌≡◌, ◌≤◌, ◌+◌, ◌||◌, ℕ, drop}
use Rattle.std.specs.List.{list_any}
use Rattle.live_jobs.specs.Mismatches.{conflicts_in, is_receipt_of}
use Rattle.live_jobs.specs.Sets.{has_job}
use Rattle.live_jobs.proofs.answers.add_jobs.Given as goal

-- the kept jobs are those of the set and those that are left, and of those in conflict those are
-- counted that aren't left
abbrev pub invariant-loop-one : goal.invariant-loop-one
invariant-loop-one g l = record {
  jobs : (end number register : ℕ) → (has_job l.jobs end number register
      || list_any (is_receipt_of end number register) (drop l.one-index l.finished.items))
      ≡ (has_job l.fn.jobs end number register
      || list_any (is_receipt_of end number register) l.finished.items);
  conflict : l.conflict + conflicts_in (drop l.one-index l.finished.items)
      ≡ conflicts_in l.finished.items;
  few : l.conflict ≤ l.one-index;
}
