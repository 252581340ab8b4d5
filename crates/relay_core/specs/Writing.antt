-- What a Write does with the writer of its group taken out of the group writer.
use Rattle.std.specs.Prelude.{◌≡◌, ◌≢◌, ℕ, true, length, map, slice_get, Option, None, Some, Bool}
use Rattle.article_verdict.specs.Config.{terms_of}
use Rattle.block_shelf.specs.Calls.{token_of}
use Rattle.block_shelf.specs.Keeping.{KeepsTexts}
use Rattle.block_shelf.specs.declared.buffer_set.Begun.{Begun}
use Rattle.block_shelf.specs.declared.buffer_set.BufferSet.{BufferSet}
use Rattle.block_shelf.specs.Leaving.{honestly}
use Rattle.buffer_group.specs.Jobs.{job_view}
use Rattle.buffer_group.specs.Writers.{writer_view}
use Rattle.buffer_group.specs.declared.job.Job.{Job}
use Rattle.buffer_group.specs.declared.writer.Writer.{Writer}
use Rattle.buffer_group.specs.declared.writer.Writer.TheVariants as writers
use Rattle.cyc_block.specs.declared.store.BlockStore.{Ghosts}
use Rattle.feed_queue.specs.Feeds.{KeepsFeeds}
use Rattle.id_history.specs.Shards.{KeepsAll}
use Rattle.relay_model.specs.Invariants.{IsWell}
use Rattle.relay_model.specs.Terms.{Terms}
use Rattle.relay_model.specs.World.{World}
use Rattle.relay_model.specs.Writers.{Writes}
use Rattle.relay_core.specs.Peers.{peer_at}
use Rattle.relay_core.specs.Agreement.{GroupWriterIs, PeerIs, ring_sizes}
use Rattle.relay_core.specs.Expiring.{expirer_view}
use Rattle.relay_core.specs.Openings.{openings}
use Rattle.relay_core.specs.Queues.{jobs_of}
use Rattle.relay_core.specs.declared.system.GroupWriter.{GroupWriter}
use Rattle.relay_core.specs.declared.system.System.{System}

-- all agrees, but that the writer of group h was taken out of its group writer, and is this one
pub record WriterOut {S : Type 0} {g : Ghosts S} (leaving : Bool) (w : Terms) (h : ℕ)
    (writer : Writer Begun) (system : System S g) (x : World)
    : Type 0 where
  pub newest : x.state.newest ≡ system.newest
  pub claims : KeepsAll system.shards x.state.claim
  pub count : length system.group_writers.items ≡ length w.groups
  pub queue : (group_writer : GroupWriter) → slice_get system.group_writers.items h
      ≡ Some group_writer
      → x.work.queue h ≡ map job_view (jobs_of group_writer.queue)
  pub writer_is : x.work.writer h ≡ writer_view token_of writer
  pub group_writers : (k : ℕ) → k ≢ h
      → GroupWriterIs (slice_get system.group_writers.items k) (x.work.queue k) (x.work.writer k)
  pub desk : KeepsFeeds system.desk (ring_sizes w) x.state.feed
  pub buffer_set : KeepsTexts (honestly leaving) system.buffer_set w x.state.begun x.state.kept
      (openings x.work.writer) x.work.failures
  pub expirer : x.work.expirer ≡ expirer_view system.expirer
  pub peers : (s : ℕ) → PeerIs true w x.state.kept (peer_at system.peers s)
      (x.state.session s) (x.work.slot s)

-- the writer that goes on with this job; without one it is idle
abbrev pub writer_of : Option Job → Writer Begun
writer_of None = writers.Idle
writer_of (Some job) = writers.Popped job

-- a Write was had, and its writer is this one now
pub record Advanced {S : Type 0} {g : Ghosts S} (leaving : Bool) (w : Terms) (h now : ℕ)
    (x : World) (writer : Writer Begun) (new : System S g)
    : Type 0 where
  pub after : World
  pub writes : Writes w x h now after
  pub out : WriterOut leaving w h writer new after

-- what a Write does in whatever world the code agrees with
abbrev pub Advances : {S : Type 0} {g : Ghosts S} → (h now : ℕ) → Writer Begun
    → (old : System S g) → Writer Begun → (new : System S g) → Type 0
Advances h now writer old writer' new =
    (leaving : Bool) (x : World) → WriterOut leaving (terms_of old.config) h writer old x
    → IsWell (terms_of old.config) x
    → Advanced leaving (terms_of old.config) h now x writer' new

-- the same by the buffer set alone, of whatever relay has it
abbrev pub AdvancesBy : {S : Type 0} {g : Ghosts S} → (h now : ℕ) → Writer Begun
    → (old : BufferSet S g) → Writer Begun → (new : BufferSet S g) → Type 0
AdvancesBy {S = S} {g = g} h now writer old writer' new =
    (system : System S g)
    → Advances h now writer (record system { buffer_set = old }) writer'
    (record system { buffer_set = new })
