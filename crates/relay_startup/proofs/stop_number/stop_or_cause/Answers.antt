use Rattle.std.proofs.Common.{arith, refl}
use Rattle.id_history.proofs.Histories.{all_takes}
use Rattle.id_history.specs.Views.{history_view}
use Rattle.relay_startup.proofs.CauseLemmas.{read_stop}
use Rattle.relay_startup.proofs.stop_number.stop_or_cause.Goals as goal

-- what is read fits,
pub unfit-cause-requires-clause-fits : goal.unfit-cause-requires-clause-fits
unfit-cause-requires-clause-fits c =
    (all_takes c.args.text.now (history_view c.in-Ok.history)
    (λ i. omega (arith, c.type_inv.text i)) c.in-Ok.ensures).0

-- and is the history of a stop where it has no cause
pub returns-in-None : goal.returns-in-None
returns-in-None c =
    read_stop c.args.config.now c.args.text.now (history_view c.in-Ok.history)
    c.in-Ok.history.stop (λ i. omega (arith, c.type_inv.text i)) c.in-Ok.ensures
    c.in-None.ensures refl
