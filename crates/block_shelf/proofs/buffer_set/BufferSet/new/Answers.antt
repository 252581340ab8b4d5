use Rattle.block_shelf.proofs.NewBufferSet.{nothing_kept}
use Rattle.block_shelf.proofs.buffer_set.BufferSet.new.Goals as goal

pub returns-clause-nothing : goal.returns-clause-nothing
returns-clause-nothing g c = λ trusted honest fresh w all groups.
    nothing_kept c.args.settings.now c.args.stores.items _ trusted honest fresh w all groups
    c.requires
    c.in_ok-buffers.ensures.over c.args.settings.now.sound c.in_ok-placed_groups.ensures.count
    c.in_ok-placed_groups.ensures.placed_groups
