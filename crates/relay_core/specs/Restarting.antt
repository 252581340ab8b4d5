-- A Restart: what it is refused for, and what it makes of the relay (docs/PROTOCOL.md, Clean stop
-- and start).
use Rattle.std.specs.Prelude.{◌≡◌, ℕ, true, false, List, [], length}
use Rattle.article_verdict.specs.Config.{terms_of}
use Rattle.block_shelf.specs.declared.restarting.RestartFault.{RestartFault}
use Rattle.block_shelf.specs.declared.restarting.RestartFault.TheVariants as restarts
use Rattle.block_shelf.specs.Leaving.{Trust}
use Rattle.cyc_block.specs.declared.store.BlockStore.{Ghosts}
use Rattle.feed_queue.specs.Feeds.{KeepsFeeds}
use Rattle.id_history.specs.declared.fault.HistoryError.{HistoryError}
use Rattle.id_history.specs.declared.fault.HistoryError.TheVariants as errors
use Rattle.id_history.specs.Shards.{KeepsAll}
use Rattle.relay_model.specs.Claims.{Claim, after_restart, is_storing}
use Rattle.relay_model.specs.Run as run
use Rattle.relay_model.specs.World as world
use Rattle.relay_model.specs.World.{Fault, Refuses, Rises, World, with_failures}
use Rattle.relay_core.specs.Peers.{NoPeers}
use Rattle.relay_core.specs.Agreement.{ring_sizes, AgreesAs}
use Rattle.relay_core.specs.Beginning.{AreIdle}
use Rattle.relay_core.specs.Expiring.{expirer_view}
use Rattle.relay_core.specs.Refusals.{RefusesRightly}
use Rattle.relay_core.specs.Stopping.{next_stop, stop_of}
use Rattle.relay_core.specs.Views.{output_view}
use Rattle.relay_core.specs.declared.desks.Desks.{Desks}
use Rattle.relay_core.specs.declared.event.CoreError.{CoreError}
use Rattle.relay_core.specs.declared.event.CoreError.TheVariants as faults
use Rattle.relay_core.specs.declared.event.Output.{Output}
use Rattle.relay_core.specs.declared.event.Output.TheVariants as outputs
use Rattle.relay_core.specs.declared.system.System.{System}

-- a Restart may be refused so
abbrev pub IsOfRestart : Fault → Type 0
IsOfRestart world.Memory = Unit {0}
IsOfRestart world.NoSession = ⊥
IsOfRestart world.SessionTaken = ⊥
IsOfRestart world.NoGroup = ⊥
IsOfRestart world.NoPeer = ⊥
IsOfRestart world.BadMoment = ⊥
IsOfRestart world.NoShard = ⊥
IsOfRestart world.NotIdle = Unit {0}
IsOfRestart world.NotRestarted = Unit {0}

-- it agrees with this world, but that devices may have failed since
pub record AgreesLater {S : Type 0} {g : Ghosts S} (trusted : Trust) (system : System S g)
    (x : World)
    : Type 0 where
  pub later : ℕ → ℕ
  pub rises : Rises x.work.failures later
  pub agrees : AgreesAs trusted system (with_failures x later)

-- A Restart is refused as not idle exactly where an id is being stored, whatever the stores do, and
-- then nothing changes at all. Otherwise it may be refused for want of memory, or as not restarted,
-- and then no more is seen to change than how often devices have failed. The number of the stop
-- rises exactly where it isn't refused.
pub record RestartsRightly {S : Type 0} {g : Ghosts S} (old : System S g) (output : Output)
    (new : System S g)
    : Type 0 where
  pub busy : (claims : List ℕ → Claim) → KeepsAll old.shards claims → (id : List ℕ)
      → is_storing (claims id) ≡ true → output ≡ outputs.Refused faults.NotIdle
  pub idle : (claims : List ℕ → Claim) → KeepsAll old.shards claims
      → output ≡ outputs.Refused faults.NotIdle → (id : List ℕ) × (is_storing (claims id) ≡ true)
  pub same : output ≡ outputs.Refused faults.NotIdle → new ≡ old
  pub only : (fault : Fault) → output_view output ≡ Refuses fault → IsOfRestart fault
  pub kept : (fault : Fault) → output_view output ≡ Refuses fault → (trusted : Trust) (x : World)
      → AgreesAs trusted old x → AgreesLater trusted new x
  pub stays : (fault : Fault) → output_view output ≡ Refuses fault → stop_of new ≡ stop_of old
  pub stop : output ≡ outputs.Quiet → stop_of new ≡ next_stop (stop_of old)

-- what an event is refused for, and what that leaves
abbrev pub RefusedAs : {S : Type 0} {g : Ghosts S} → run.Event → (old : System S g) → Output
    → (new : System S g) → Type 0
RefusedAs (run.Open s peer) old output new = RefusesRightly (run.Open s peer) old output new
RefusedAs (run.Bytes s piece) old output new = RefusesRightly (run.Bytes s piece) old output new
RefusedAs (run.Turn s now) old output new = RefusesRightly (run.Turn s now) old output new
RefusedAs (run.Write h now) old output new = RefusesRightly (run.Write h now) old output new
RefusedAs (run.Break s) old output new = RefusesRightly (run.Break s) old output new
RefusedAs (run.Expire shard now) old output new =
    RefusesRightly (run.Expire shard now) old output new
RefusedAs run.Restart old output new = RestartsRightly old output new

-- what it is refused as, where the buffer set isn't restarted
abbrev pub refused_as : RestartFault → CoreError
refused_as restarts.Memory = faults.Memory
refused_as restarts.Busy = faults.NotRestarted
refused_as (restarts.Failed number) = faults.NotRestarted

-- what is kept in memory beside the buffer set, as a Restart leaves it of each world that the relay
-- agrees with
pub record IsReread {S : Type 0} {g : Ghosts S} (old : System S g) (desks : Desks) : Type 0 where
  pub claims : (trusted : Trust) (x : World) → AgreesAs trusted old x
      → ((id : List ℕ) → is_storing (x.state.claim id) ≡ false)
      → KeepsAll desks.shards (λ id. after_restart (x.state.claim id))
  pub desk : (trusted : Trust) (x : World) → AgreesAs trusted old x
      → KeepsFeeds desks.desk (ring_sizes (terms_of old.config)) x.state.feed
  pub group_writers : AreIdle (length old.group_writers.items) desks.group_writers.items
  pub expirer : expirer_view desks.expirer ≡ world.Reading []

-- the text of a relay that agrees with a world is that of a history of its configuration
abbrev pub IsUnread : {S : Type 0} {g : Ghosts S} → System S g → HistoryError → Type 0
IsUnread old errors.Memory = Unit {0}
IsUnread old errors.BadHistory = (trusted : Trust) (x : World) → AgreesAs trusted old x → ⊥

-- the relay goes on with these, under this stop, and without sessions
pub record BeginsAgain {S : Type 0} {g : Ghosts S} (desks : Desks) (stop : ℕ)
    (old new : System S g)
    : Type 0 where
  pub nobody : NoPeers new.peers
  pub rest : new ≡ record old {
    peers = new.peers;
    shards = desks.shards;
    desk = desks.desk;
    group_writers = desks.group_writers;
    expirer = desks.expirer;
    stop = stop;
  }
