use Rattle.relay_core.proofs.Killed.{leaves_killed}
use Rattle.relay_core.proofs.system.System.kill.Goals as goal

pub returns-in-Ok-clause-left : goal.returns-in-Ok-clause-left
returns-in-Ok-clause-left g c =
    leaves_killed c.args.self c.take_apart-buffer_set.result.0 c.in-Ok.stores.items
    c.take_apart-buffer_set.ensures.buffer_set c.in-Ok.ensures.left
