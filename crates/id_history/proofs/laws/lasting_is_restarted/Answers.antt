use Rattle.id_history.proofs.LastingLaws.{lasting-restart}
use Rattle.id_history.proofs.laws.lasting_is_restarted.Goals as goal

pub returns : goal.returns
returns c = lasting-restart
