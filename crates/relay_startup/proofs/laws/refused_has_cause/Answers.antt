use Rattle.std.proofs.Common.{arith}
use Rattle.std.proofs.lemmas.Result.{IfErr-weaker, IfOk-weaker}
use Rattle.id_history.specs.Views.{history_view}
use Rattle.relay_startup.proofs.CauseLemmas.{has_cause, no_cause}
use Rattle.relay_startup.proofs.laws.refused_has_cause.Goals as goal

-- what is taken has none,
pub returns-clause-taken : goal.returns-clause-taken
returns-clause-taken c =
    IfOk-weaker c.read_history.result _ _
    (λ history reads. no_cause c.args.config.now c.args.text.now (history_view history) reads)
    c.read_history.ensures.reads

-- and what is refused has one
pub returns-clause-refused : goal.returns-clause-refused
returns-clause-refused c =
    IfErr-weaker c.read_history.result _ _
    (λ error none bad. has_cause c.args.config.now c.args.text.now
    (λ i. omega (arith, c.type_inv.text i)) (none bad))
    c.read_history.ensures.none
