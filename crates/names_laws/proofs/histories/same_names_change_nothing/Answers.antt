use Rattle.names_laws.proofs.SameNames.{same_names}
use Rattle.names_laws.proofs.histories.same_names_change_nothing.Goals as goal

pub returns : goal.returns
returns c = same_names
