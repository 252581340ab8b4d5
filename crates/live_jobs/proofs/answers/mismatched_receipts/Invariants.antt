use Rattle.std.proofs.Common.{◌≡◌, ◌≤◌, ◌*◌, ◌^◌, ℕ, map, take}
use Rattle.std.specs.List.{list_any}
use Rattle.live_jobs.specs.Gathered.{all_told}
use Rattle.live_jobs.specs.Mismatches.{conflicts_in, is_receipt_of}
use Rattle.live_jobs.specs.Sets.{has_job}
use Rattle.live_jobs.proofs.answers.mismatched_receipts.Given as goal

-- the kept jobs of the writers so far are those of the set, and those in conflict are counted
abbrev pub invariant-loop-writer : goal.invariant-loop-writer
invariant-loop-writer g l = record {
  jobs : (end number register : ℕ) → has_job l.jobs end number register
      ≡ list_any (is_receipt_of end number register)
      (all_told (map (λ w. w.finished.items) (take l.writer-index l.writers)));
  conflict : l.conflict
      ≡ conflicts_in (all_told (map (λ w. w.finished.items) (take l.writer-index l.writers)));
  few : l.conflict ≤ l.writer-index * 2 ^ 63;
}
