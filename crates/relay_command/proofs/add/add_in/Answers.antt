use Rattle.relay_command.proofs.Addings.{handed_to}
use Rattle.relay_command.proofs.Checks.{keeps_same}
use Rattle.relay_command.proofs.add.add_in.Goals as goal

-- what adds was handed the configuration that the folder has and the folder, and answers rightly
pub returns-in-Ok-added : goal.returns-in-Ok-added
returns-in-Ok-added g c = (
  c.in-Ok.config,
  c.in-Ok.ensures,
  handed_to _ _ _ _ _ _ _ c.in-Ok-added.ensures,
  c.requires.rightly _ _ _ _ _ c.in-Ok-added.ensures,
)

pub returns-in-Err-added : goal.returns-in-Err-added
returns-in-Err-added g c = (
  c.in-Ok.config,
  c.in-Ok.ensures,
  handed_to _ _ _ _ _ _ _ c.in-Err-added.ensures,
  c.requires.rightly _ _ _ _ _ c.in-Err-added.ensures,
)

-- the configuration is at fault
pub returns-in-Err : goal.returns-in-Err
returns-in-Err g c = (c.in-Err.ensures, keeps_same (g.W.Write.contents c.args.writer.now))
