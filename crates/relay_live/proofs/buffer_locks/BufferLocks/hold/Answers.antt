use Rattle.std.proofs.Common.{◌∙◌}
use Rattle.relay_live.proofs.Orders.{number_at}
use Rattle.relay_live.proofs.buffer_locks.BufferLocks.hold.Goals as goal

-- the number there is that of the place
pub returns : goal.returns
returns g c =
    c.of.ensures.number
    ∙ c.index.ensures
    ∙ number_at c.args.self.now.numbers.items c.args.place c.index.result.now c.requires.order
    c.requires.within
