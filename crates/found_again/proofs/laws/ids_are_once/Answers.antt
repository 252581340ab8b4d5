use Rattle.std.proofs.Common.{le_trans}
use Rattle.found_again.proofs.ClaimLemmas.{no_more_have}
use Rattle.found_again.proofs.laws.ids_are_once.Goals as goal

-- there are no more than of the texts
pub returns : goal.returns
returns c w texts again id are once = le_trans (no_more_have w id texts again are) once
