use Rattle.block_shelf.proofs.Resumes.{resumed_over}
use Rattle.block_shelf.specs.Starting.{buffers_inside}
use Rattle.block_shelf.proofs.resuming.placed_groups_over.Goals as goal

-- the buffers are those of which so much is used
pub returns : goal.returns
returns g c =
    resumed_over c.args.settings.now c.args.positions.now (buffers_inside c.args.buffers.now)
    c.in_ok-used.used.items c.in_ok-placed_groups.placed_groups.items c.in_ok-used.ensures
    (rw c.deref.ensures.value at c.in_ok-placed_groups.ensures.placed_groups)
