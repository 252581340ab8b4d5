use Rattle.std.proofs.Common.{subst, sym}
use Rattle.block_shelf.specs.Starting.{IsFromOutside}
use Rattle.relay_adding.proofs.AddedOver.{from_outside, same_buffer}
use Rattle.relay_adding.proofs.making.start_added.Goals as goal

-- what was left is held as stopped, which is no reason to refuse it
pub returns-in-Ok-clause-fault : goal.returns-in-Ok-clause-fault
returns-in-Ok-clause-fault g c = λ honest.
    let added = c.in-Ok.ensures.added in
    let outside = c.in-Err.ensures.held (added.honest honest) c.args.stop _ (added.held honest)
    (same_buffer g.S.BlockStore c.args.number c.args.store c.in-Ok.added added.count) in
    subst IsFromOutside (sym c.fault_of.ensures) (from_outside c.in-Err.refused.error outside)
