use Rattle.names_laws.proofs.Fits.{gained_stays, taken_stays}
use Rattle.names_laws.proofs.feeds.counts_stay.Goals as goal

pub returns-clause-gained : goal.returns-clause-gained
returns-clause-gained c = gained_stays

pub returns-clause-taken : goal.returns-clause-taken
returns-clause-taken c = taken_stays
