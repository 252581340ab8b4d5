use Rattle.relay_facts.proofs.StartedWell.{started_well}
use Rattle.relay_facts.proofs.started_stays_well.Goals as goal

pub returns : goal.returns
returns c = started_well
