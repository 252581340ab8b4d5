use Rattle.repair_laws.proofs.SameKept.{same_kept}
use Rattle.repair_laws.proofs.laws.same_kept.Goals as goal

pub returns : goal.returns
returns g c = same_kept
