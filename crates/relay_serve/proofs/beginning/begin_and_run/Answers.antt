use Rattle.std.proofs.Common.{Result, subst}
use Rattle.std.specs.Prelude.{IfOk}
use Rattle.std.specs.declared.alloc.AllocError.{AllocError}
use Rattle.relay_report.proofs.Printed.{printed}
use Rattle.relay_report.specs.declared.totals.Totals.{Totals}
use Rattle.relay_report.specs.Serve.{AreOf}
use Rattle.relay_serve.proofs.ServeFaults.{served_none, unbegun_serves}
use Rattle.relay_startup.proofs.Faults.{stop_serves}
use Rattle.relay_serve.proofs.beginning.begin_and_run.Goals as goal

-- where it isn't known what it begins from nothing is written,
pub returns-in-Err : goal.returns-in-Err
returns-in-Err g c =
    unbegun_serves c.args.config.now c.in-Err.error (g.W.Write.contents c.args.writer.now)
    c.in-Err.ensures.fault

-- nor by what isn't run,
pub returns-in_err-finished : goal.returns-in_err-finished
returns-in_err-finished g c =
    served_none c.args.config.now c.in_err-finished.field-0.0 c.from_residual.result
    (g.W.Write.contents c.args.writer.now) c.from_residual.ensures.0 c.from_residual.ensures.1
    c.in_err-finished.ensures.fault

-- nor where what it was stopped with isn't kept
pub returns-in_err-totals : goal.returns-in_err-totals
returns-in_err-totals g c =
    let gone = c.from_residual-in_err-totals in
    served_none c.args.config.now c.in_err-totals.field-0.0 gone.result
    (g.W.Write.contents c.args.writer.now) gone.ensures.0 gone.ensures.1
    (stop_serves c.args.config.now c.in_err-totals.field-0.0 c.in_err-totals.ensures.fault)

pub returns : goal.returns
returns g c =
    printed _ _ _ _ _
    (subst (λ (totals : Result Totals AllocError). IfOk totals (AreOf c.args.config.now))
    c.in_ok-totals.ensures.totals c.in_ok-finished.ensures.totals)
    c.print_totals-printed.ensures
