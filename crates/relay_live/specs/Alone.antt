-- The parts of a relay that no thread shares, and which state of the relay they keep
-- (docs/PROTOCOL.md, Threads, Clean stop and start).
use Rattle.std.specs.Prelude.{◌≡◌, ℕ, List, length, map}
use Rattle.block_shelf.specs.Starting.{BuffersKeep, PlacedGroupsKeep}
use Rattle.cyc_block.specs.declared.store.BlockStore as blocks
use Rattle.cyc_buffer.specs.declared.buffer.Buffer.{Buffer}
use Rattle.feed_queue.specs.Feeds.{KeepsFeeds}
use Rattle.id_history.specs.Shards.{EachKeeps}
use Rattle.live_jobs.specs.Desks.{desk_of}
use Rattle.live_store.specs.Steps.{buffer_of}
use Rattle.live_store.specs.declared.record.StorePremises as store_premises
use Rattle.news_terms.specs.Settings.{AreSound}
use Rattle.relay_core.specs.Agreement.{ring_sizes}
use Rattle.relay_facts.specs.Started.{newest_kept}
use Rattle.relay_live.specs.Numbers.{last_of}
use Rattle.relay_live.specs.declared.alone.Alone.{Alone}
use Rattle.relay_model.specs.State.{State}
use Rattle.relay_model.specs.Terms.{Terms}
use Rattle.post_history.specs.declared.book.Naming as naming
use Rattle.post_history.specs.Shards.{shards_in}

-- its buffers, without the numbers beside them
abbrev pub codes_of : {S J L : Type 0} {s : blocks.Ghosts S}
    {j : store_premises.Ghosts J} {n : naming.Ghosts J}
    → Alone S J L s j n → List (Buffer S s)
codes_of alone = map buffer_of alone.buffers.items

-- the number of the session that was drawn last
abbrev pub newest_in : {S J L : Type 0} {s : blocks.Ghosts S}
    {j : store_premises.Ghosts J} {n : naming.Ghosts J}
    → Alone S J L s j n → ℕ
newest_in alone = last_of alone.last

-- the number of the last stop
abbrev pub stop_in : {S J L : Type 0} {s : blocks.Ghosts S}
    {j : store_premises.Ghosts J} {n : naming.Ghosts J}
    → Alone S J L s j n → ℕ
stop_in alone = alone.stop

-- What the parts beside the buffers keep of a state, over any stores: the newest session, each
-- message-id's claim in its own shard, the feeds in their rings, and where each group is.
pub record KeepsBeside {S J L : Type 0} {s : blocks.Ghosts S}
    {j : store_premises.Ghosts J} {n : naming.Ghosts J} (w : Terms)
    (alone : Alone S J L s j n) (σ : State)
    : Type 0 where
  pub newest : newest_in alone ≡ newest_kept σ.newest
  pub claims : EachKeeps (shards_in alone.shards.items) σ.claim
  pub feeds : KeepsFeeds (desk_of alone.desk) (ring_sizes w) σ.feed
  pub feed_count : alone.feeds ≡ length w.feeds
  pub sound : AreSound w.buffers w.groups
  pub placed_groups : PlacedGroupsKeep alone.placed_groups.items w σ.begun

-- The parts keep the state, in which no write is open: also each buffer, over an honest store,
-- whose device has failed as often as is said.
pub record KeepsState {S J L : Type 0} {s : blocks.Ghosts S}
    {j : store_premises.Ghosts J} {n : naming.Ghosts J} (w : Terms)
    (alone : Alone S J L s j n) (σ : State) (failures : ℕ → ℕ)
    : Type 0 where
  pub beside : KeepsBeside w alone σ
  pub buffers : BuffersKeep (codes_of alone) w σ.begun σ.kept failures
