use Rattle.relay_command.proofs.Checks.{keeps_same}
use Rattle.relay_command.proofs.program.drill_in.Goals as goal

pub returns-in-Ok-drill_script : goal.returns-in-Ok-drill_script
returns-in-Ok-drill_script g c = (c.in-Ok.config, c.in-Ok.ensures, c.in-Ok-drill_script.ensures)

pub returns-in-Err-drill_script : goal.returns-in-Err-drill_script
returns-in-Err-drill_script g c = (c.in-Ok.config, c.in-Ok.ensures, c.in-Err-drill_script.ensures)

pub returns-in-Err : goal.returns-in-Err
returns-in-Err g c = (c.in-Err.ensures, keeps_same (g.W.Write.contents c.args.writer.now))
