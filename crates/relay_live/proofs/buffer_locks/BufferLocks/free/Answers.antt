use Rattle.std.proofs.Common.{length, refl}
use Rattle.relay_live.specs.BufferLocks.{numbers_in, numbers_left}
use Rattle.relay_live.specs.Locked.{freed_number}
use Rattle.relay_live.proofs.Orders.{all_out, one_left}
use Rattle.relay_live.proofs.buffer_locks.BufferLocks.free.Goals as goal

-- there is room for a buffer more
pub push_reserved-requires : goal.push_reserved-requires
push_reserved-requires g c =
    one_left freed_number c.loop-freed.values.items (numbers_left c.loop-freed.left)
    (numbers_left c.next.new.self) (numbers_in c.args.self) (freed_number c.in-Some.freed) _
    (length (numbers_in c.args.self)) _ c.loop-freed.invariant.numbers c.in-Some.ensures.some
    c.loop-freed.values.ok.0 refl c.loop-freed.invariant.room

-- none is left
pub returns-clause-count : goal.returns-clause-count
returns-clause-count g c =
    all_out freed_number c.loop-freed.values.items (numbers_in c.args.self)
    (numbers_left c.loop-freed.left) c.loop-freed.invariant.numbers c.in_default.ensures.none
