use Rattle.std.proofs.Common.{refl}
use Rattle.job_queue.proofs.Steps.{end_hands_over, knows_more}
use Rattle.job_queue.proofs.queue.hand_over.Goals as goal

pub push_as-requires-clause-rule : goal.push_as-requires-clause-rule
push_as-requires-clause-rule g c =
    (end_hands_over _ _ _ _ _ c.requires.open.0 refl c.requires.open.1, λ items views h at. tt)

pub returns-in-Ok-clause-open : goal.returns-in-Ok-clause-open
returns-in-Ok-clause-open g c = knows_more _ _ _ _ c.requires.open c.in-Ok.ensures.rule
