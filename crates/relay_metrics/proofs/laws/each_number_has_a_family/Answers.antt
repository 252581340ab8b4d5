use Rattle.std.proofs.Common.{refl}
use Rattle.relay_metrics.proofs.Samples.{told_value}
use Rattle.relay_metrics.proofs.laws.each_number_has_a_family.Goals as goal

pub returns : goal.returns
returns c = record { told = refl; values = told_value }
