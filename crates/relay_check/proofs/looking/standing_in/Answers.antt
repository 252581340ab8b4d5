use Rattle.std.proofs.lemmas.Result.{err_from_is_err_and}
use Rattle.relay_check.proofs.Looks.{file_is_served}
use Rattle.relay_check.proofs.looking.standing_in.Goals as goal

-- a file can't be looked at
pub returns-in_err-stores : goal.returns-in_err-stores
returns-in_err-stores g c =
    let told = err_from_is_err_and c.from_residual.result c.from_residual.ensures.1 in
    rw (told.1, told.2)
    (file_is_served c.args.config.now c.in_err-stores.field-0.0 c.in_err-stores.ensures.fault)
