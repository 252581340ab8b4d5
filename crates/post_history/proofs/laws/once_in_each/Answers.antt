use Rattle.post_history.proofs.OnceLaws.{once_some}
use Rattle.post_history.proofs.laws.once_in_each.Goals as goal

pub returns : goal.returns
returns c = once_some
