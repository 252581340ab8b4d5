use Rattle.relay_laws.proofs.Settling.{accepts_settle, abandons_forget}
use Rattle.relay_laws.proofs.rules.writers_settle_and_forget.Goals as goal

pub returns-clause-settled : goal.returns-clause-settled
returns-clause-settled c = accepts_settle

pub returns-clause-forgotten : goal.returns-clause-forgotten
returns-clause-forgotten c = abandons_forget
