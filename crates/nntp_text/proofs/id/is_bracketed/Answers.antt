use Rattle.std.proofs.Common.{sym, ◌∙◌, eq-eqb}
use Rattle.std.proofs.lemmas.Bool.{eqb-true}
use Rattle.nntp_text.proofs.Ids.{brackets_are}
use Rattle.nntp_text.proofs.id.is_bracketed.Goals as goal
use Rattle.nntp_text.proofs.id.is_bracketed.Goals.{then-text-eq60, else-text-eq60}

pub returns-then-text-last-eq62 : goal.returns-then-text-last-eq62
returns-then-text-last-eq62 c =
    elim c.if-text-eq60.branch [
      | then-text-eq60 w ↦
          brackets_are c.args.text.now c.contains.result (eq-eqb _ _ w.if-text-eq60.true)
          (sym w.value-is ∙ c.if-text-last-eq62.true) c.contains.ensures.value
      | else-text-eq60 w ↦
          absurd (w.if-text-eq60.false (eqb-true _ _ (sym w.value-is ∙ c.if-text-last-eq62.true)))
    ]
