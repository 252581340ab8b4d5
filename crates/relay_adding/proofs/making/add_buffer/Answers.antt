use Rattle.relay_adding.proofs.AddedOver.{added_by}
use Rattle.relay_adding.proofs.making.add_buffer.Goals as goal

-- a new buffer agrees with a history of nothing, which its stop leaves on the store
pub returns-in-Ok-clause-added : goal.returns-in-Ok-clause-added
returns-in-Ok-clause-added g c =
    added_by c.args.stop c.args.number c.args.store c.in-Ok.buffer c.close.result
    c.in-Ok.ensures.new c.in-Ok.ensures.blocks c.in-Ok.ensures.calls c.in-Ok.ensures.failures
    c.close.ensures.held c.close.ensures.honest c.close.ensures.count c.close.ensures.calls
    c.close.ensures.no_failure
