-- Events and outputs of the code as the definitions have them (docs/PROTOCOL.md, Events and
-- outputs).
use Rattle.article_verdict.specs.Verdict.{reason_view}
use Rattle.relay_model.specs.Run as run
use Rattle.relay_model.specs.World as world
use Rattle.relay_core.specs.declared.event.CoreError.{CoreError}
use Rattle.relay_core.specs.declared.event.CoreError.TheVariants as faults
use Rattle.relay_core.specs.declared.event.Event.{Event}
use Rattle.relay_core.specs.declared.event.Event.TheVariants as events
use Rattle.relay_core.specs.declared.event.Output.{Output}
use Rattle.relay_core.specs.declared.event.Output.TheVariants as outputs

-- what happens to the relay
abbrev pub event_view : Event → run.Event
event_view (events.Open session peer) = run.Open session peer
event_view (events.Bytes session piece) = run.Bytes session piece
event_view (events.Turn session now) = run.Turn session now
event_view (events.Write group now) = run.Write group now
event_view (events.Break session) = run.Break session
event_view (events.Expire shard now) = run.Expire shard now
event_view events.Restart = run.Restart

-- why an event is refused
abbrev pub fault_view : CoreError → world.Fault
fault_view faults.Memory = world.Memory
fault_view faults.NoSession = world.NoSession
fault_view faults.SessionTaken = world.SessionTaken
fault_view faults.NoGroup = world.NoGroup
fault_view faults.NoPeer = world.NoPeer
fault_view faults.BadMoment = world.BadMoment
fault_view faults.NoShard = world.NoShard
fault_view faults.NotIdle = world.NotIdle
fault_view faults.NotRestarted = world.NotRestarted

-- what an event is answered
abbrev pub output_view : Output → world.Output
output_view outputs.Quiet = world.Quiet
output_view (outputs.Sent session octets) = world.Sent session octets
output_view (outputs.Rejected session octets reason) =
    world.Rejects session octets (reason_view reason)
output_view (outputs.Ended session octets) = world.Ended session octets
output_view (outputs.Refused error) = world.Refuses (fault_view error)
