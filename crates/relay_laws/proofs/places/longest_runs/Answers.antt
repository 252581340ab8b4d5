use Rattle.relay_laws.proofs.Cuts.{cut_placed, one_cut, some_cut}
use Rattle.relay_laws.proofs.places.longest_runs.Goals as goal

pub returns-clause-some : goal.returns-clause-some
returns-clause-some c = some_cut

pub returns-clause-one : goal.returns-clause-one
returns-clause-one c = one_cut

pub returns-clause-placed : goal.returns-clause-placed
returns-clause-placed c = cut_placed
