-- A start of the parts of a relay: from what, and why not (docs/PROTOCOL.md, Clean stop and start).
use Rattle.std.specs.Prelude.{◌≡◌, ◌≢◌, ℕ, ◌<◌, ◌≤◌, true, false, List, length}
use Rattle.std.specs.Prelude.{map, Option, None, Some, slice_get}
use Rattle.article_verdict.specs.Config.{terms_of}
use Rattle.boxcar.specs.Table.{Shelves}
use Rattle.block_shelf.specs.Each.{AreEach}
use Rattle.block_shelf.specs.Heads as heads
use Rattle.block_shelf.specs.Starting.{CanStart, EarlierStart, IsFirstOther, IsFromOutside}
use Rattle.block_shelf.specs.Starting.{IsMixedAt, IsUnwritten, buffer_over, failed_at}
use Rattle.block_shelf.specs.Starting.{ResumePlacedGroups, buffers_inside}
use Rattle.block_shelf.specs.Starting.{fault_of_start}
use Rattle.block_shelf.specs.Starting.{number_told}
use Rattle.block_shelf.specs.declared.starting.StopFault.{StopFault}
use Rattle.block_shelf.specs.declared.starting.StopFault.TheVariants as faults
use Rattle.block_shelf.specs.declared.starting.Unstarted.{Unstarted}
use Rattle.cyc_block.specs.declared.store.BlockStore as blocks
use Rattle.cyc_buffer.specs.Agreement.{Agrees, store_of}
use Rattle.cyc_buffer.specs.Head.{has_open_head, inside, is_busy, said_of, stop_of}
use Rattle.cyc_buffer.specs.History.{History}
use Rattle.cyc_buffer.specs.Reads.{StaysHeld}
use Rattle.cyc_buffer.specs.Stopped.{HoldsStopped, Says}
use Rattle.cyc_buffer.specs.declared.answers.StartError.{StartError}
use Rattle.cyc_buffer.specs.declared.answers.StartError.TheVariants as errors
use Rattle.cyc_buffer.specs.declared.unopened.Unopened.{Unopened}
use Rattle.feed_queue.specs.Feeds.{KeepsFeeds, ring_size}
use Rattle.feed_queue.specs.Left.{AreLeft}
use Rattle.id_history.specs.History as texts
use Rattle.id_history.specs.Lasting.{AreLasting, lasting}
use Rattle.id_history.specs.Shards.{EachKeeps}
use Rattle.live_jobs.specs.Desks.{desk_of}
use Rattle.live_store.specs.Started.{AreArticles, IsRefusedFor, IsUnentered, WasStopped}
use Rattle.live_store.specs.Started.{numbers_on, unopened_in}
use Rattle.live_store.specs.Steps.{open_write_of, buffer_of, numbers_of}
use Rattle.live_store.specs.Tied.{AreNumbered}
use Rattle.live_store.specs.declared.numbered.NumberedBuffer.{NumberedBuffer}
use Rattle.live_store.specs.declared.record.StorePremises as store_premises
use Rattle.live_store.specs.declared.unopened.UnopenedNumbered.{UnopenedNumbered}
use Rattle.relay_conf.specs.declared.settings.Config.{Config}
use Rattle.relay_core.specs.Desks.{Reads}
use Rattle.relay_core.specs.Starting.{IsAheadAs}
use Rattle.relay_core.specs.Stopping.{IsShut}
use Rattle.relay_core.specs.declared.stopped.NotStarted.{NotStarted}
use Rattle.relay_core.specs.declared.stopped.NotStarted.TheVariants as nots
use Rattle.relay_facts.specs.Started.{HasSameStore, started}
use Rattle.relay_live.specs.Alone.{KeepsState, newest_in, stop_in}
use Rattle.relay_live.specs.Making.{HasParts, last_stop}
use Rattle.relay_live.specs.Numbers.{last_of}
use Rattle.relay_live.specs.Stopping.{AreShutWith}
use Rattle.relay_live.specs.declared.alone.Alone.{Alone}
use Rattle.relay_live.specs.declared.desks.Desks.{Desks}
use Rattle.relay_live.specs.declared.shared.Shared.{Shared}
use Rattle.news_terms.specs.HeadBlocks.{Closed}
use Rattle.relay_model.specs.Claims.{Claim}
use Rattle.relay_model.specs.State.{Feed}
use Rattle.relay_model.specs.Terms.{Terms}
use Rattle.relay_model.specs.World.{World}
use Rattle.post_history.specs.declared.book.Naming as naming
use Rattle.post_history.specs.Shards.{shards_in}

-- FROM WHAT

-- each store holds its buffer as it was stopped
abbrev pub WereStopped : {S : Type 0} (s : blocks.Ghosts S) → (stores : List S) → Type 0
WereStopped {S} s stores =
    (b : ℕ) (store : S) → slice_get stores b ≡ Some store
    → ∥ WasStopped (s.heads store) (s.blocks store) (buffer_over s b store) ∥₁

-- EACH BUFFER

-- The buffer of this number was started from a store, which is unwritten. Over an honest one it
-- agrees with each history that the store holds as stopped, and the first block of each live
-- article has the number of its record.
pub record IsStartedOver {S J : Type 0} {s : blocks.Ghosts S}
    {j : store_premises.Ghosts J} (number : ℕ)
    (store : S) (one : UnopenedNumbered S J s j)
    : Type 0 where
  pub agrees : s.honest store → (stop : ℕ) (h : History)
      → HoldsStopped (s.heads store) (s.blocks store) stop h
      → h.buffer ≡ buffer_over s number store → Agrees true (inside (unopened_in one)) h
  pub numbered : s.honest store → (stop : ℕ) (h : History)
      → HoldsStopped (s.heads store) (s.blocks store) stop h
      → h.buffer ≡ buffer_over s number store → AreNumbered true j.register h (numbers_on one)
  pub stop : s.honest store → (stop : ℕ) (h : History)
      → HoldsStopped (s.heads store) (s.blocks store) stop h
      → stop_of (inside (unopened_in one)) ≡ stop
  pub starts : s.honest store → CanStart s number store (stop_of (inside (unopened_in one)))
  pub said : s.honest store → Says (s.heads store) (buffer_over s number store)
      (said_of Closed (stop_of (inside (unopened_in one))) (inside (unopened_in one)))
  pub no_failure : s.failures (store_of (inside (unopened_in one))) ≡ s.failures store
  pub unopened_head : has_open_head (inside (unopened_in one)) ≡ false
  pub idle : is_busy (inside (unopened_in one)) ≡ false
  pub held : StaysHeld s store (store_of (inside (unopened_in one)))

-- the buffers were started from these stores, in their order, all of which were stopped under this
-- number
pub record AreStarted {S J : Type 0} {s : blocks.Ghosts S} {j : store_premises.Ghosts J}
    (stores : List S)
    (stop : ℕ) (buffers : List (UnopenedNumbered S J s j))
    : Type 0 where
  pub over : AreEach IsStartedOver stores buffers
  pub under : IsFirstOther stop (map unopened_in buffers) None

-- the buffer is the started one, whose device says, by one call that hasn't failed, that it may
-- change; nothing stands beside it, and the numbers at its blocks stay
pub record IsOpenedFrom {S J : Type 0} {s : blocks.Ghosts S} {j : store_premises.Ghosts J} (b : ℕ)
    (one : UnopenedNumbered S J s j) (numbered : NumberedBuffer S J s j)
    : Type 0 where
  pub buffer : heads.IsOpenedFrom b (unopened_in one) (buffer_of numbered)
  pub free : open_write_of numbered ≡ None
  pub numbers : numbers_of numbered ≡ numbers_on one

-- THE RELAY

-- The parts of a relay that was started from stores and text. The text is of a history that isn't
-- ahead of the stores, whose stop and newest session they have; the buffers were started at this
-- stop, and their heads are open. Over what a relay was shut to, with its buffers, groups and
-- feeds, they keep what a Restart makes of the state of each world with which that agreed.
pub record StartsOver {S J L : Type 0} {s : blocks.Ghosts S}
    {j : store_premises.Ghosts J} {n : naming.Ghosts J}
    (config : Config) (stores : List S) (text : List ℕ) (alone : Alone S J L s j n)
    : Type 0 where
  pub history : texts.Kept
  pub reads : Reads config text history
  pub behind : IsAheadAs s config stores history false
  pub unopened : List (UnopenedNumbered S J s j)
  pub from_stores : AreStarted stores history.stop unopened
  pub opened : AreEach IsOpenedFrom unopened alone.buffers.items
  pub placed_group_count : length alone.placed_groups.items ≡ length config.buffers.groups.items
  pub stop_is : stop_in alone ≡ history.stop
  pub newest_is : newest_in alone ≡ history.newest
  pub feed_count : alone.feeds ≡ length config.relay.feeds.items
  pub remembers : alone.remember ≡ config.relay.remember
  pub keeps : (w : Terms) (stop : ℕ) (x : World) → HasSameStore w (terms_of config)
      → IsShut s w stop stores text x
      → KeepsState (terms_of config) alone (started x x.work.failures).state x.work.failures

-- WHY IT ISN'T STARTED

-- A store comes back unwritten, where the first fault is that of the buffer at this place: its
-- device has failed if that is the fault, and none before it has. A buffer behind it may have been
-- tried beside it, so that its device may have failed, too.
pub record IsBack {S : Type 0} (s : blocks.Ghosts S) (failed : Option ℕ) (place b : ℕ) (old new : S)
    : Type 0 where
  pub held : StaysHeld s old new
  pub failed_here : failed ≡ Some b → s.failures old < s.failures new
  pub no_failure : b ≤ place → failed ≢ Some b → s.failures new ≡ s.failures old

-- the start of the buffer at this place is refused, and none before it: an honest store for the
-- first reason that its blocks give, or as the text of a live article is none
pub record IsRefusedAt {S : Type 0} (s : blocks.Ghosts S) (stores : List S) (error : StartError)
    (back : List S)
    : Type 0 where
  pub place : ℕ
  pub store : S
  pub there : slice_get stores place ≡ Some store
  pub reason : s.honest store
      → IsRefusedFor (s.heads store) (s.blocks store) (buffer_over s place store) error
  -- where each text that it holds as stopped is an article, that is no reason
  pub outside : s.honest store → (stop : ℕ) (h : History)
      → HoldsStopped (s.heads store) (s.blocks store) stop h
      → h.buffer ≡ buffer_over s place store → IsUnentered (AreArticles h) error
  pub earlier : EarlierStart s stores place
  pub back_each : AreEach (IsBack s (failed_at error place) place) stores back

-- The fault of a buffer is told with its number, in the order of the buffers; then the first that
-- was stopped under another number; memory may be refused in place of each. Nothing is written.
abbrev pub IsUnstartedBy : {S : Type 0} → blocks.Ghosts S → (stores : List S) → (stop : ℕ)
    → StopFault → Option ℕ → (back : List S) → Type 0
IsUnstartedBy s stores stop faults.Memory buffer back =
    (buffer ≡ None) × ((place : ℕ) × AreEach (IsBack s None place) stores back)
IsUnstartedBy s stores stop faults.Device buffer back =
    (why : IsRefusedAt s stores errors.Device back) × (buffer ≡ Some why.place)
IsUnstartedBy s stores stop faults.NoHead buffer back =
    (why : IsRefusedAt s stores errors.NoHead back) × (buffer ≡ Some why.place)
IsUnstartedBy s stores stop faults.Unclosed buffer back =
    (why : IsRefusedAt s stores errors.Unclosed back) × (buffer ≡ Some why.place)
IsUnstartedBy s stores stop faults.Damaged buffer back =
    (why : IsRefusedAt s stores errors.Damaged back) × (buffer ≡ Some why.place)
IsUnstartedBy s stores stop faults.BadHistory buffer back = ⊥
IsUnstartedBy s stores stop faults.Mixed buffer back =
    (place : ℕ) × (buffer ≡ Some place) × IsMixedAt s stores stop place back
IsUnstartedBy s stores stop faults.Ahead buffer back = ⊥

abbrev pub IsUnstarted : {S : Type 0} → blocks.Ghosts S → (stores : List S) → (stop : ℕ)
    → Unstarted S → Type 0
IsUnstarted s stores stop refused =
    IsUnstartedBy s stores stop refused.error refused.buffer refused.stores.items

-- every honest store can be started, and was stopped under this number
abbrev pub AllStart : {S : Type 0} → blocks.Ghosts S → (stores : List S) → (stop : ℕ) → Type 0
AllStart {S} s stores stop =
    (b : ℕ) (one : S) → slice_get stores b ≡ Some one → s.honest one → CanStart s b one stop

-- A store comes back, where the device of the one at this place failed while its head was opened:
-- it has failed, none before it has, and those behind it are unwritten.
pub record IsLeftUnopened {S : Type 0} (s : blocks.Ghosts S) (place b : ℕ) (old new : S) : Type 0
  where
    pub failed : b ≡ place → s.failures old < s.failures new
    pub before : b < place → s.failures new ≡ s.failures old
    pub behind : place < b → IsUnwritten s None b old new

-- the device of a buffer failed, whose number is told; the stores are those of all, in their order
pub record IsUnopened {S : Type 0} (s : blocks.Ghosts S) (stores : List S) (refused : Unstarted S)
    : Type 0 where
  pub device : refused.error ≡ faults.Device
  pub place : ℕ
  pub within : place < length stores
  pub told : refused.buffer ≡ Some place
  pub left : AreEach (IsLeftUnopened s place) stores refused.stores.items

-- why a start is refused, in the order of trial; where it is for one reason none before it was
pub data IsStartRefusal {S : Type 0} (s : blocks.Ghosts S) (config : Config) (stores : List S)
    (text : List ℕ) (refused : Unstarted S)
    : Type 0 where
  -- memory was refused, which may be in place of each other reason; all stores are unwritten
  HasNoRoom : refused.error ≡ faults.Memory → refused.buffer ≡ None
      → AreEach (IsUnwritten s None) stores refused.stores.items
      → IsStartRefusal s config stores text refused
  -- the text is of no history that the configuration allows; no store was called
  IsUnread : refused.error ≡ faults.BadHistory → refused.buffer ≡ None
      → refused.stores.items ≡ stores → ((kept : texts.Kept) → Reads config text kept → ⊥)
      → IsStartRefusal s config stores text refused
  -- a buffer isn't started, or was stopped at another stop
  HasNoBuffer : (history : texts.Kept) → Reads config text history
      → IsUnstarted s stores history.stop refused
      → IsStartRefusal s config stores text refused
  -- all are, but the history is ahead of them; all stores are unwritten
  IsAhead : (history : texts.Kept) → Reads config text history → AllStart s stores history.stop
      → IsAheadAs s config stores history true → refused.error ≡ faults.Ahead
      → refused.buffer ≡ None → AreEach (IsUnwritten s None) stores refused.stores.items
      → IsStartRefusal s config stores text refused
  -- it isn't, but the device of a buffer failed while its head was opened
  HasNoHead : (history : texts.Kept) → Reads config text history → AllStart s stores history.stop
      → IsAheadAs s config stores history false → IsUnopened s stores refused
      → IsStartRefusal s config stores text refused

-- what a relay was shut to, with its buffers, groups and feeds, where each live text is that of a
-- record, is refused for want of memory or for a device that failed alone
abbrev pub HasCauseFor : {S : Type 0} (s : blocks.Ghosts S) → Config → (stores : List S)
    → (text : List ℕ) → Unstarted S → Type 0
HasCauseFor {S} s config stores text refused =
    (register : Shelves) (w : Terms) (stop : ℕ) (x : World) → HasSameStore w (terms_of config)
    → IsShut s w stop stores text x → AreShutWith s register stop stores
    → IsFromOutside refused.error

-- a start is refused in the order of the reasons, and what was shut never without a cause
pub record IsRefusedRightly {S : Type 0} (s : blocks.Ghosts S) (config : Config) (stores : List S)
    (text : List ℕ) (refused : Unstarted S)
    : Type 0 where
  pub reason : IsStartRefusal s config stores text refused
  pub cause : HasCauseFor s config stores text refused

-- so it is, unless the host has no seed: then the stores come back as they are
abbrev pub IsNotStarted : {S : Type 0} (s : blocks.Ghosts S) → Config → (stores : List S)
    → (text : List ℕ) → NotStarted S → Type 0
IsNotStarted s config stores text (nots.Host why back) = back.items ≡ stores
IsNotStarted s config stores text (nots.Refused refused) =
    IsRefusedRightly s config stores text refused

-- THE SHARED RELAY

-- the text is of a history of this configuration, and the relay goes on from its stop
pub record HasStopOf {S J L : Type 0} {s : blocks.Ghosts S}
    {j : store_premises.Ghosts J} {n : naming.Ghosts J}
    (config : Config) (text : List ℕ) (shared : Shared S J L s j n)
    : Type 0 where
  pub history : texts.Kept
  pub reads : Reads config text history
  pub stop_is : last_stop shared ≡ history.stop

-- a relay was made of the parts of one that was started from these stores and this text
pub record StartsShared {S J L : Type 0} {s : blocks.Ghosts S}
    {j : store_premises.Ghosts J} {n : naming.Ghosts J}
    (config : Config) (stores : List S) (text : List ℕ) (shared : Shared S J L s j n)
    : Type 0 where
  pub alone : Alone S J L s j n
  pub slots : ℕ
  pub parts : HasParts shared alone slots
  pub starts : StartsOver config stores text alone

-- STEP BY STEP

-- the stores of started buffers
abbrev pub stores_of : {S J : Type 0} {s : blocks.Ghosts S} {j : store_premises.Ghosts J}
    → List (UnopenedNumbered S J s j) → List S
stores_of {S} {J} {s} {j} buffers =
    map (λ (one : UnopenedNumbered S J s j). store_of (inside (unopened_in one))) buffers

-- the device of a buffer failed, whose number is told, while the heads of these buffers were opened
pub record IsHeadFailed {S : Type 0} {s : blocks.Ghosts S} (buffers : List (Unopened S s))
    (refused : Unstarted S)
    : Type 0 where
  pub device : refused.error ≡ faults.Device
  pub place : ℕ
  pub within : place < length buffers
  pub told : refused.buffer ≡ Some place
  pub left : AreEach (heads.IsLeftUnopened place) buffers refused.stores.items

-- What is made of a history, with placed groups over started buffers: the ids have what was left of
-- their claims, the rings what was left of their feeds, the groups are at their positions, and the
-- newest session is that of the history.
pub record AreOf {S J L : Type 0} {s : blocks.Ghosts S} {n : naming.Ghosts J} (config : Config)
    (buffers : List (Unopened S s)) (kept : texts.Kept) (desks : Desks J L n)
    : Type 0 where
  pub claims : (claim : List ℕ → Claim) → AreLasting kept.ids claim
      → EachKeeps (shards_in desks.shards.items) (λ id. lasting (claim id))
  pub feeds : (feed : ℕ → Feed)
      → AreLeft kept.feeds (map ring_size config.relay.feeds.items) feed
      → KeepsFeeds (desk_of desks.desk) (map ring_size config.relay.feeds.items) feed
  pub placed_groups : ResumePlacedGroups config.buffers kept.positions (buffers_inside buffers)
      desks.placed_groups.items
  pub placed_group_count : length desks.placed_groups.items ≡ length config.buffers.groups.items
  pub newest : last_of desks.last ≡ kept.newest

-- the start of a buffer over these stores is refused for this fault, which is told with its number
abbrev pub IsTriedRefusal : {S : Type 0} → blocks.Ghosts S → (before : List S) → StopFault
    → Option ℕ → (back : List S) → Type 0
IsTriedRefusal s before fault number back =
    (start : StartError) × (fault ≡ fault_of_start start)
    × ((why : IsRefusedAt s before start back) × (number ≡ number_told start why.place))
