use Rattle.relay_laws.proofs.Gone.{gone_stays, stays_found_gone}
use Rattle.relay_laws.proofs.stores.gone_stays_gone.Goals as goal

pub returns-clause-gone : goal.returns-clause-gone
returns-clause-gone c = gone_stays

pub returns-clause-found : goal.returns-clause-found
returns-clause-found c = stays_found_gone
