use Rattle.std.proofs.Common.{◌≡◌}
use Rattle.crate_rows.proofs.fetches.said.put_steps.Given as goal

abbrev pub invariant-loop-word : goal.invariant-loop-word
invariant-loop-word g l = l.share.parts ≡ 1
