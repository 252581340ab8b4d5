use Rattle.relay_metrics.proofs.Escapes.{value_read}
use Rattle.relay_metrics.proofs.laws.values_are_read_as_they_are.Goals as goal

pub returns : goal.returns
returns c = value_read
