use Rattle.relay_command.proofs.Checks.{keeps_same}
use Rattle.relay_command.proofs.Servings.{handed}
use Rattle.relay_command.proofs.serve.serve_in.Goals as goal

-- what serves was handed the configuration that the folder has, the folder, the number and
-- whether all is formatted, and answers rightly
pub returns-in-Ok-served : goal.returns-in-Ok-served
returns-in-Ok-served g c = (
  c.in-Ok.config,
  c.in-Ok.ensures,
  handed _ _ _ _ _ _ _ _ _ c.in-Ok-served.ensures,
  c.requires.rightly _ _ _ _ _ _ _ c.in-Ok-served.ensures,
)

pub returns-in-Err-served : goal.returns-in-Err-served
returns-in-Err-served g c = (
  c.in-Ok.config,
  c.in-Ok.ensures,
  handed _ _ _ _ _ _ _ _ _ c.in-Err-served.ensures,
  c.requires.rightly _ _ _ _ _ _ _ c.in-Err-served.ensures,
)

-- the configuration is at fault
pub returns-in-Err : goal.returns-in-Err
returns-in-Err g c = (c.in-Err.ensures, keeps_same (g.W.Write.contents c.args.writer.now))
