use Rattle.std.proofs.Common.{refl, sym, ◌∙◌}
use Rattle.job_queue.proofs.Steps.{end_hands_over, knows_more}
use Rattle.job_queue.proofs.queue.mark_closed.Goals as goal
use Rattle.job_queue.proofs.queue.mark_closed.Goals.{in-Ok, in-Err}
use Rattle.job_queue.proofs.Lists.{off}

pub push_as-requires-clause-rule : goal.push_as-requires-clause-rule
push_as-requires-clause-rule g c =
    (end_hands_over _ _ _ _ _ c.requires.open.0 refl c.requires.open.1, λ items views h at. tt)

pub returns-clause-closed : goal.returns-clause-closed
returns-clause-closed g c = λ is. elim c.match-push_as.branch [
  | in-Ok w ↦ knows_more _ _ _ _ c.requires.open w.in-Ok.ensures.rule
  | in-Err w ↦ absurd (off (sym w.result-is ∙ is))
]
