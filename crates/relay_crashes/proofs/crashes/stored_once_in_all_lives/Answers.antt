use Rattle.relay_crashes.proofs.StoredAgain.{stored_once_again}
use Rattle.relay_crashes.proofs.crashes.stored_once_in_all_lives.Goals as goal

pub returns : goal.returns
returns c = stored_once_again
