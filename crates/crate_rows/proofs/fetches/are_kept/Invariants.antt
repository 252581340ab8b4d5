use Rattle.std.proofs.Common.{◌≡◌}
use Rattle.crate_rows.proofs.fetches.are_kept.Given as goal

abbrev pub invariant-loop-number : goal.invariant-loop-number
invariant-loop-number g l = l.share.parts ≡ 1
