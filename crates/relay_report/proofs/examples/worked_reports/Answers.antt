use Rattle.std.proofs.Common.{refl}
use Rattle.std.specs.Fmt.{digits}
use Rattle.relay_report.proofs.examples.worked_reports.Goals as goal

pub returns-clause-first_script : goal.returns-clause-first_script
unfolding digits
returns-clause-first_script c = refl

pub returns-clause-ring : goal.returns-clause-ring
unfolding digits
returns-clause-ring c = refl
