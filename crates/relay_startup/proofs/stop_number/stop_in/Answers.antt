use Rattle.std.proofs.Common.{ℕ, Result, subst}
use Rattle.std.specs.Prelude.{Some}
use Rattle.relay_report.specs.declared.keeping.HistoryFault.{HistoryFault}
use Rattle.relay_startup.proofs.CauseLemmas.{no_stop}
use Rattle.relay_startup.specs.Causes.{HasStopOrCause}
use Rattle.relay_startup.proofs.stop_number.stop_in.Goals as goal

-- where there is a cause no relay can have stopped so
pub returns-in-Ok-Err-clause-none : goal.returns-in-Ok-Err-clause-none
returns-in-Ok-Err-clause-none c =
    no_stop c.args.config.now (Some c.args.text.now) c.in-Ok-Err.cause
    (subst
    (λ (told : Result ℕ HistoryFault). HasStopOrCause c.args.config.now c.args.text.now told)
    c.in-Ok-Err.field-0-is c.in-Ok-Err.ensures)
