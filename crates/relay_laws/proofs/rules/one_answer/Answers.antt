use Rattle.relay_laws.proofs.OneAnswer.{one_step, one_run}
use Rattle.relay_laws.proofs.rules.one_answer.Goals as goal

pub returns-clause-step : goal.returns-clause-step
returns-clause-step c = λ w x y z event one other t u c d.
    let same = one_step w x y z event one other t u c d in (same.output, same.world)

pub returns-clause-run : goal.returns-clause-run
returns-clause-run c = λ w x y z events outputs others t u.
    one_run w x events outputs others y z t u
