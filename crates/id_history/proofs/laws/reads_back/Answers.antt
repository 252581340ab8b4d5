use Rattle.id_history.proofs.LastingLaws.{reads-back}
use Rattle.id_history.proofs.laws.reads_back.Goals as goal

pub returns : goal.returns
returns c = reads-back
