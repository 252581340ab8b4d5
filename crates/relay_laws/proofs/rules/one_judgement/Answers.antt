use Rattle.relay_laws.proofs.OneJudgement.{one_judgement, some_judgement}
use Rattle.relay_laws.proofs.rules.one_judgement.Goals as goal

pub returns-clause-most : goal.returns-clause-most
returns-clause-most c = one_judgement

pub returns-clause-least : goal.returns-clause-least
returns-clause-least c = some_judgement
