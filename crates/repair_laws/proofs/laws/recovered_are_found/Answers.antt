use Rattle.repair_laws.proofs.RecoveredSet.{recovered_are_found}
use Rattle.repair_laws.proofs.laws.recovered_are_found.Goals as goal

pub returns : goal.returns
returns g c = recovered_are_found
