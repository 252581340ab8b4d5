use Rattle.relay_metrics.proofs.Samples.{of_report}
use Rattle.relay_metrics.proofs.laws.samples_are_there.Goals as goal

pub returns : goal.returns
returns c = of_report
