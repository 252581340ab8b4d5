use Rattle.std.proofs.Common.{refl}
use Rattle.relay_laws.proofs.FeedFigures.{feeds_add_up, within_ring, within_unpassed}
use Rattle.relay_laws.proofs.figures.tokens_add_up.Goals as goal

pub returns-clause-ring : goal.returns-clause-ring
returns-clause-ring c = within_ring

pub returns-clause-unpassed : goal.returns-clause-unpassed
returns-clause-unpassed c = within_unpassed

pub returns-clause-gained : goal.returns-clause-gained
returns-clause-gained c = λ size feed. refl

pub returns-clause-overwritten : goal.returns-clause-overwritten
returns-clause-overwritten c = λ size feed. refl

pub returns-clause-sum : goal.returns-clause-sum
returns-clause-sum c = feeds_add_up
