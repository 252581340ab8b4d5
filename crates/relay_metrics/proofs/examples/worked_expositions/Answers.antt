use Rattle.std.proofs.Common.{refl}
use Rattle.std.specs.Fmt.{digits}
use Rattle.relay_metrics.proofs.examples.worked_expositions.Goals as goal

pub returns-clause-recovering : goal.returns-clause-recovering
unfolding digits
returns-clause-recovering c = refl

pub returns-clause-ring : goal.returns-clause-ring
unfolding digits
returns-clause-ring c = refl

pub returns-clause-paused : goal.returns-clause-paused
unfolding digits
returns-clause-paused c = refl

pub returns-clause-odd : goal.returns-clause-odd
unfolding digits
returns-clause-odd c = refl
