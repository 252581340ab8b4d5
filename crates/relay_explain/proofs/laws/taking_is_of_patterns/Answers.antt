use Rattle.relay_explain.proofs.Taking.{text_takes}
use Rattle.relay_explain.proofs.laws.taking_is_of_patterns.Goals as goal

pub returns : goal.returns
returns c = text_takes
