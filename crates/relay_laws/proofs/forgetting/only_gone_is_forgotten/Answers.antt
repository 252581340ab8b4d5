use Rattle.relay_laws.proofs.ReadFronts.{always_gone, expire_gone, stored_until_gone}
use Rattle.relay_laws.proofs.forgetting.only_gone_is_forgotten.Goals as goal

pub returns-clause-expire : goal.returns-clause-expire
returns-clause-expire c = expire_gone

pub returns-clause-step : goal.returns-clause-step
returns-clause-step c = always_gone

pub returns-clause-run : goal.returns-clause-run
returns-clause-run c = stored_until_gone
