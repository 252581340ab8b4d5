use Rattle.relay_command.proofs.CommandLines.{asks, refuses}
use Rattle.relay_command.proofs.command_line.read_words.Goals as goal

pub returns-in_ok-job-in-Ok : goal.returns-in_ok-job-in-Ok
returns-in_ok-job-in-Ok c =
    asks _ _ _ c.in_ok-command.ensures.words c.in-Ok.ensures.kinds _
    (λ simple. (c.in-Ok.ensures.matches simple).1) c.in_ok-job-in-Ok.ensures

pub returns-in-Err : goal.returns-in-Err
returns-in-Err c =
    refuses _ _ c.in-Err.error c.in_ok-command.ensures.words c.in-Err.ensures.kinds
