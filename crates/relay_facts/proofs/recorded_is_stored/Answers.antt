use Rattle.relay_facts.proofs.Recorded.{gained_below_fronts, gained_stored, stored_below}
use Rattle.relay_facts.proofs.recorded_is_stored.Goals as goal

pub returns-clause-stored : goal.returns-clause-stored
returns-clause-stored c = stored_below

pub returns-clause-gained : goal.returns-clause-gained
returns-clause-gained c = gained_below_fronts

pub returns-clause-most : goal.returns-clause-most
returns-clause-most c = gained_stored
