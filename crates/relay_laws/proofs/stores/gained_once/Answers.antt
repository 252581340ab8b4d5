use Rattle.relay_laws.proofs.AcceptedOnce.{gains_once, accepts_stored}
use Rattle.relay_laws.proofs.stores.gained_once.Goals as goal

pub returns-clause-feeds : goal.returns-clause-feeds
returns-clause-feeds c = gains_once

pub returns-clause-accepted : goal.returns-clause-accepted
returns-clause-accepted c = accepts_stored
