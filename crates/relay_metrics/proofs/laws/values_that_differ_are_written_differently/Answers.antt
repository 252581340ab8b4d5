use Rattle.relay_metrics.proofs.Escapes.{one_value}
use Rattle.relay_metrics.proofs.laws.values_that_differ_are_written_differently.Goals as goal

pub returns : goal.returns
returns c = one_value
