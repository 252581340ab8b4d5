use Rattle.id_history.proofs.LastingLaws.{one_left}
use Rattle.id_history.proofs.laws.one_is_left.Goals as goal

pub returns : goal.returns
returns c = λ one other claims. one_left claims one other
