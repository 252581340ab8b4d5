use Rattle.std.proofs.Common.{◌≡◌, ◌+◌, ◌≤◌, ◌*◌, ◌^◌, map, drop}
use Rattle.live_jobs.specs.Sets.{unlisted_from}
use Rattle.live_jobs.proofs.answers.all_mismatched.Given as goal

-- what is counted, with the answers of the ends that are left, is the whole
abbrev pub invariant-loop-end : goal.invariant-loop-end
invariant-loop-end g l = record {
  count : l.all + unlisted_from l.jobs l.end (drop l.end (map (λ a. a.now) l.answers))
      ≡ unlisted_from l.jobs 0 (map (λ a. a.now) l.answers);
  few : l.all ≤ l.end * 2 ^ 62;
}
