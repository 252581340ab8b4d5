use Rattle.relay_laws.proofs.Forgotten.{is_forgotten, is_kept, stage_forgotten}
use Rattle.relay_laws.proofs.forgetting.old_and_gone_is_forgotten.Goals as goal

pub returns-clause-forgotten : goal.returns-clause-forgotten
returns-clause-forgotten c = is_forgotten

pub returns-clause-kept : goal.returns-clause-kept
returns-clause-kept c = is_kept

pub returns-clause-stage : goal.returns-clause-stage
returns-clause-stage c = stage_forgotten
