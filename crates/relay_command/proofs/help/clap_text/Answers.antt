use Rattle.relay_command.proofs.Checks.{keeps_same}
use Rattle.relay_command.proofs.help.clap_text.Goals as goal

pub returns-in-Ok-put : goal.returns-in-Ok-put
returns-in-Ok-put g c = (c.as_bytes.result.now, c.in-Ok-put.ensures)

pub returns-in-Ok : goal.returns-in-Ok
returns-in-Ok g c = (c.as_bytes.result.now, c.in-Err-put.ensures)

pub returns : goal.returns
returns g c = (c.from.ensures, keeps_same (g.W.Write.contents c.args.writer.now))
