use Rattle.relay_report.specs.declared.fault.ServeError.TheVariants as faults
use Rattle.relay_serve.proofs.ServeFaults.{served_none}
use Rattle.relay_serve.proofs.serving.serve_on.Goals as goal

-- where memory is refused nothing is served
pub returns-in_err-callers : goal.returns-in_err-callers
returns-in_err-callers g c =
    let gone = c.from_residual-in_err-callers in
    served_none c.args.config.now faults.Memory gone.result
    (g.W.Write.contents c.args.writer.now) gone.ensures.0 gone.ensures.1 tt
