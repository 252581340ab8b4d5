use Rattle.post_history.proofs.OnceLaws.{earlier_gone}
use Rattle.post_history.proofs.laws.earlier_is_gone.Goals as goal

pub returns : goal.returns
returns c = earlier_gone
