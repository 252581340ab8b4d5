-- The relay before anything has come.
use Rattle.std.specs.Prelude.{◌≡◌, ℕ, Bool, true, All, List, [], length, map}
use Rattle.block_shelf.specs.Filling.{failures_in}
use Rattle.block_shelf.specs.Leaving.{IsFresh}
use Rattle.buffer_group.specs.declared.writer.Writer.TheVariants as writers
use Rattle.cyc_block.specs.declared.store.BlockStore.{Ghosts}
use Rattle.feed_queue.specs.Feeds.{KeepsFeeds, no_feed, ring_size}
use Rattle.id_history.specs.Shards.{KeepsAll}
use Rattle.relay_conf.specs.declared.settings.Config.{Config}
use Rattle.relay_model.specs.Claims.{Unknown}
use Rattle.relay_model.specs.World as world
use Rattle.relay_model.specs.World.{empty_world}
use Rattle.relay_core.specs.Agreement.{Agrees, AgreesLeft}
use Rattle.relay_core.specs.Expiring.{expirer_view}
use Rattle.relay_core.specs.Queues.{jobs_of}
use Rattle.relay_core.specs.Refusals.{HasGroupWriters}
use Rattle.relay_core.specs.Stopping.{stop_of}
use Rattle.relay_core.specs.declared.desks.Desks.{Desks}
use Rattle.relay_core.specs.declared.system.GroupWriter.{GroupWriter}
use Rattle.relay_core.specs.declared.system.System.{System}

-- a group writer without jobs
pub record IsIdle (group_writer : GroupWriter) : Type 0 where
  pub none : jobs_of group_writer.queue ≡ []
  pub idle : group_writer.writer ≡ writers.Idle

-- so many group writers without jobs
pub record AreIdle (count : ℕ) (group_writers : List GroupWriter) : Type 0 where
  pub count_is : length group_writers ≡ count
  pub each : All IsIdle group_writers

-- what is kept in memory beside the buffers, before anything has come
pub record AreNew (config : Config) (desks : Desks) : Type 0 where
  pub claims : KeepsAll desks.shards (λ id. Unknown)
  pub desk : KeepsFeeds desks.desk (map ring_size config.relay.feeds.items) (λ f. no_feed)
  pub group_writers : AreIdle (length config.buffers.groups.items) desks.group_writers.items
  pub expirer : expirer_view desks.expirer ≡ world.Reading []

-- The relay of this configuration over these stores agrees with the empty world, in which each
-- device has failed as often as it had.
pub record BeginsOver {S : Type 0} {g : Ghosts S} (config : Config) (stores : List S)
    (system : System S g)
    : Type 0 where
  pub config_is : system.config ≡ config
  pub agrees : (trusted : Bool) → (trusted ≡ true → All g.honest stores)
      → Agrees trusted system (empty_world (failures_in g stores))
  -- over fresh stores it does, and a crash may leave them
  pub leaves : All (IsFresh g) stores → AgreesLeft system (empty_world (failures_in g stores))
  pub laned : HasGroupWriters system
  -- there was no stop yet
  pub stop_is : stop_of system ≡ 0
