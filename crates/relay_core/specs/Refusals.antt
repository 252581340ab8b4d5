-- Which events are refused, and in which order; this holds over every store, honest or not.
use Rattle.std.specs.Prelude.{◌≡◌, true, length, Option, None, Some}
use Rattle.article_verdict.specs.Config.{terms_of}
use Rattle.cyc_block.specs.declared.store.BlockStore.{Ghosts}
use Rattle.relay_model.specs.Run.{Event, refusal, takes_memory}
use Rattle.relay_model.specs.State.{State, empty_state}
use Rattle.relay_model.specs.World.{Fault, Memory, Refuses, World}
use Rattle.relay_core.specs.Peers.{session_at}
use Rattle.relay_core.specs.Views.{output_view}
use Rattle.relay_core.specs.declared.event.Output.{Output}
use Rattle.relay_core.specs.declared.system.System.{System}
use Rattle.relay_core.specs.Agreement.{AgreesAs}
use Rattle.block_shelf.specs.Leaving.{Trust}

-- what an event is refused by: the sessions that are there, and the number of the newest
abbrev pub seen : {S : Type 0} {g : Ghosts S} → System S g → State
seen system =
    record empty_state { session = session_at system.peers; newest = system.newest }

-- each group has its group writer
abbrev pub HasGroupWriters : {S : Type 0} {g : Ghosts S} → System S g → Type 0
HasGroupWriters system = length system.group_writers.items ≡ length (terms_of system.config).groups

-- the first reason to refuse the event is answered; where there is none, no other refusal is than
-- want of memory, and that only where the event takes memory
abbrev pub IsInOrder : Event → Option Fault → Output → Type 0
IsInOrder event (Some fault) output = output_view output ≡ Refuses fault
IsInOrder event None output =
    (fault : Fault) → output_view output ≡ Refuses fault
    → (fault ≡ Memory) × (takes_memory event ≡ true)

-- The event is refused in the order of the reasons, whatever the stores do, and what is refused so
-- changes nothing at all; one refused for want of memory nothing that anybody can see.
pub record RefusesRightly {S : Type 0} {g : Ghosts S} (event : Event) (old : System S g)
    (output : Output) (new : System S g)
    : Type 0 where
  pub order : HasGroupWriters old
      → IsInOrder event (refusal (terms_of old.config) (seen old) event) output
  pub same : HasGroupWriters old → (fault : Fault)
      → refusal (terms_of old.config) (seen old) event ≡ Some fault → new ≡ old
  pub kept : (fault : Fault) → output_view output ≡ Refuses fault → (trusted : Trust) (x : World)
      → AgreesAs trusted old x → AgreesAs trusted new x
