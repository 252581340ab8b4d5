use Rattle.std.proofs.lemmas.Result.{err_from_is_err_and}
use Rattle.relay_serve.proofs.ServeFaults.{unopened_serves}
use Rattle.relay_serve.proofs.serving.open_and_run.Goals as goal

-- what it is served over can't be had
pub returns-in_err-unbegun : goal.returns-in_err-unbegun
returns-in_err-unbegun g c =
    let told = err_from_is_err_and c.from_residual.result c.from_residual.ensures.1 in
    rw (told.1, told.2)
    (unopened_serves c.args.config.now c.in_err-unbegun.field-0.0
    (g.W.Write.contents c.args.writer.now) c.in_err-unbegun.ensures.fault)
