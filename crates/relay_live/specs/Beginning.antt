-- The parts of a relay before anything has come (docs/PROTOCOL.md, Threads).
use Rattle.std.specs.Prelude.{◌≡◌, ◌+◌, ℕ, Bool, true, List, None, length, map, replicate}
use Rattle.block_shelf.specs.Each.{AreEach}
use Rattle.block_shelf.specs.Filling.{AreNewPlacedGroups, failures_in}
use Rattle.article_verdict.specs.Config.{terms_of}
use Rattle.block_shelf.specs.Starting.{buffer_over}
use Rattle.cyc_block.specs.declared.store.BlockStore as blocks
use Rattle.cyc_buffer.specs.Agreement.{Agrees, store_of}
use Rattle.cyc_buffer.specs.Head.{LeavesBlocks}
use Rattle.cyc_buffer.specs.History.{new_history}
use Rattle.feed_queue.specs.Feeds.{KeepsFeeds, no_feed, ring_size}
use Rattle.id_history.specs.Shards.{EachKeeps}
use Rattle.live_jobs.specs.Desks.{desk_of}
use Rattle.live_store.specs.Steps.{open_write_of, buffer_of, numbers_of}
use Rattle.live_store.specs.declared.numbered.NumberedBuffer.{NumberedBuffer}
use Rattle.live_store.specs.declared.record.StorePremises as store_premises
use Rattle.relay_conf.specs.Settings.{places_of_groups}
use Rattle.relay_conf.specs.declared.settings.Config.{Config}
use Rattle.relay_live.specs.Alone.{KeepsState, newest_in, stop_in}
use Rattle.relay_live.specs.Making.{HasParts}
use Rattle.relay_live.specs.declared.alone.Alone.{Alone}
use Rattle.relay_live.specs.declared.shared.Shared.{Shared}
use Rattle.relay_model.specs.Claims.{Unknown}
use Rattle.relay_model.specs.State.{empty_state}
use Rattle.std.specs.List.{All}
use Rattle.post_history.specs.declared.book.Naming as naming
use Rattle.post_history.specs.Shards.{shards_in}

-- The buffer of this number over a store, in which nothing was begun: nothing stands beside it, and
-- no number at a block. The device was called once, for head block 0, and hasn't failed.
pub record IsNewOver {S J : Type 0} {s : blocks.Ghosts S} {j : store_premises.Ghosts J} (number : ℕ)
    (store : S) (numbered : NumberedBuffer S J s j)
    : Type 0 where
  pub agrees : (trusted : Bool) → (trusted ≡ true → s.honest store)
      → Agrees trusted (buffer_of numbered) (new_history (buffer_over s number store))
  pub blocks : LeavesBlocks s store (store_of (buffer_of numbered))
  pub calls : s.calls (store_of (buffer_of numbered)) ≡ s.calls store + 1
  pub failures : s.failures (store_of (buffer_of numbered)) ≡ s.failures store
  pub free : open_write_of numbered ≡ None
  pub unnumbered : numbers_of numbered ≡ replicate (length (s.blocks store)) None

-- The parts of a relay of this configuration over these stores, before anything has come: every
-- message-id is unknown, no feed gained anything, nothing was begun in a buffer or a group, no
-- session was drawn, and there was no stop. So over honest stores they keep the empty state, in
-- which each device has failed as often as it had.
pub record BeginsOver {S J L : Type 0} {s : blocks.Ghosts S}
    {j : store_premises.Ghosts J} {n : naming.Ghosts J}
    (config : Config) (stores : List S) (alone : Alone S J L s j n)
    : Type 0 where
  pub claims : EachKeeps (shards_in alone.shards.items) (λ id. Unknown)
  pub feeds : KeepsFeeds (desk_of alone.desk)
      (map ring_size config.relay.feeds.items) (λ f. no_feed)
  pub placed_groups : AreNewPlacedGroups (places_of_groups config.buffers) alone.placed_groups.items
  pub placed_group_count : length alone.placed_groups.items ≡ length config.buffers.groups.items
  pub buffers : AreEach IsNewOver stores alone.buffers.items
  pub newest : newest_in alone ≡ 0
  pub stop_is : stop_in alone ≡ 0
  pub feed_count : alone.feeds ≡ length config.relay.feeds.items
  pub remembers : alone.remember ≡ config.relay.remember
  pub keeps : All s.honest stores
      → KeepsState (terms_of config) alone empty_state (failures_in s stores)

-- a relay was made of such parts
pub record BeginsShared {S J L : Type 0} {s : blocks.Ghosts S}
    {j : store_premises.Ghosts J} {n : naming.Ghosts J}
    (config : Config) (stores : List S) (shared : Shared S J L s j n)
    : Type 0 where
  pub alone : Alone S J L s j n
  pub slots : ℕ
  pub parts : HasParts shared alone slots
  pub begins : BeginsOver config stores alone
