use Rattle.repair_laws.proofs.FoundWhole.{found_is_of_crash}
use Rattle.repair_laws.proofs.laws.found_is_of_crash.Goals as goal

pub returns : goal.returns
returns g c found_set w v saved x begun kept left claimed = found_is_of_crash
