use Rattle.std.proofs.Common.{refl}
use Rattle.std.specs.Fmt.{digits}
use Rattle.relay_report.proofs.examples.long_ones_stand_in_full.Goals as goal

pub returns-clause-number : goal.returns-clause-number
unfolding digits
returns-clause-number c = refl

pub returns-clause-full : goal.returns-clause-full
unfolding digits
returns-clause-full c = refl
