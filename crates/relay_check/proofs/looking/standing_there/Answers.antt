use Rattle.std.proofs.Common.{◌≡◌, ◌⊎◌, inr, subst, sym}
use Rattle.std.proofs.lemmas.Result.{IfErr-weaker}
use Rattle.relay_report.specs.declared.fault.ServeError.{ServeError}
use Rattle.relay_report.specs.declared.fault.ServeError.TheVariants as faults
use Rattle.relay_check.proofs.Looks.{control_looks}
use Rattle.buffer_files.specs.Faults.{IsServeFault}
use Rattle.relay_check.proofs.looking.standing_there.Goals as goal

-- it can't be looked at,
pub returns-in-Ok-false : goal.returns-in-Ok-false
returns-in-Ok-false g c =
    IfErr-weaker c.standing_in.result _ _ (λ error fault. inr fault) c.standing_in.ensures

-- or the socket not be asked
pub returns-in-Err : goal.returns-in-Err
returns-in-Err g c =
    subst
    (λ (error : ServeError). (error ≡ faults.Control) ⊎ IsServeFault c.args.config.now error)
    (sym c.unasked.ensures) (control_looks c.args.config.now c.kind.result)
