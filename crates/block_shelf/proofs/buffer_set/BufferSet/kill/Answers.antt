use Rattle.block_shelf.proofs.Killed.{leaves_stores}
use Rattle.block_shelf.proofs.buffer_set.BufferSet.kill.Goals as goal

pub returns-clause-left : goal.returns-clause-left
returns-clause-left g c =
    leaves_stores c.args.self c.give_up.result.items
    (rw c.in-Ok.ensures.items at c.give_up.ensures.items)
