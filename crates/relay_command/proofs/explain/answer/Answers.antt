use Rattle.std.proofs.Common.{inl, inr}
use Rattle.std.proofs.lemmas.Result.{IfErr-weaker}
use Rattle.relay_command.proofs.explain.answer.Goals as goal

pub returns-in-Ok-clause-text : goal.returns-in-Ok-clause-text
returns-in-Ok-clause-text g c = c.told-text.ensures.text c.in-Ok.ensures

pub returns-in-Ok-clause-error : goal.returns-in-Ok-clause-error
returns-in-Ok-clause-error g c =
    IfErr-weaker c.told-text.result _ _ (λ error memory. inl memory) c.told-text.ensures.memory

pub returns-in-Err-clause-error : goal.returns-in-Err-clause-error
returns-in-Err-clause-error g c = inr c.in-Err.ensures
