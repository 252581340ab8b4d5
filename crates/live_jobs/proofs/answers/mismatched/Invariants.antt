use Rattle.std.proofs.Common.{◌≡◌, ◌≤◌, take}
use Rattle.live_jobs.specs.Sets.{unlisted_of}
use Rattle.live_jobs.proofs.answers.mismatched.Given as goal

-- the answers so far for no job of the set are counted
abbrev pub invariant-loop-answer : goal.invariant-loop-answer
invariant-loop-answer g l = record {
  count : l.mismatched ≡ unlisted_of l.jobs l.end (take l.answer-index l.answers);
  few : l.mismatched ≤ l.answer-index;
}
