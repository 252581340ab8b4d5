use Rattle.relay_command.proofs.Checks.{error_is_told, told_in}
use Rattle.relay_command.proofs.check.check.Goals as goal

-- the configuration that was told is the folder's
pub returns-in-Ok : goal.returns-in-Ok
returns-in-Ok g c =
    told_in _ c.in-Ok.config c.args.folder.now c.tell_config-told.result
    (g.W.Write.contents c.args.writer.now) (g.W.Write.contents c.tell_config-told.new.writer)
    c.in-Ok.ensures c.tell_config-told.ensures

pub returns-in-Err : goal.returns-in-Err
returns-in-Err g c = error_is_told c.args.folder.now c.in-Err.error
    (g.W.Write.contents c.args.writer.now) c.in-Err.ensures
