use Rattle.buffer_group.proofs.LawLemmas.{tries_its_step}
use Rattle.buffer_group.proofs.laws.writes_try_steps.Goals as goal

pub returns : goal.returns
returns c = tries_its_step
