-- A stop of the parts of a relay: what its history tells, and what stores and text hold
-- (docs/PROTOCOL.md, Clean stop and start).
use Rattle.std.specs.Prelude.{◌≡◌, ℕ, ◌<◌, true, false, List}
use Rattle.std.specs.Prelude.{length, map, Option, None, Some, slice_get}
use Rattle.std.specs.Prelude.{Result, IfErr, IfOk}
use Rattle.boxcar.specs.Table.{Shelves}
use Rattle.block_shelf.specs.Each.{AreEach}
use Rattle.block_shelf.specs.Stopping.{IsLeftOver, IsShutOver, IsStopped}
use Rattle.cyc_block.specs.declared.store.BlockStore as blocks
use Rattle.cyc_buffer.specs.Head.{is_busy}
use Rattle.cyc_buffer.specs.declared.buffer.Buffer.{Buffer}
use Rattle.id_history.specs.Shards.{EachKeeps}
use Rattle.live_store.specs.Started.{ShutWith}
use Rattle.live_store.specs.Steps.{buffer_of}
use Rattle.live_store.specs.declared.numbered.NumberedBuffer.{NumberedBuffer}
use Rattle.live_store.specs.declared.record.StorePremises as store_premises
use Rattle.relay_core.specs.Stopping.{IsShut, Tells, next_stop}
use Rattle.relay_core.specs.declared.stopped.Stopped.{Stopped}
use Rattle.relay_live.specs.Alone.{KeepsBeside, KeepsState, codes_of, stop_in}
use Rattle.relay_live.specs.Gains.{TellGained}
use Rattle.relay_live.specs.Making.{HasParts, buffers_in, last_stop}
use Rattle.relay_live.specs.declared.alone.Alone.{Alone}
use Rattle.relay_live.specs.declared.shared.Shared.{Shared}
use Rattle.relay_live.specs.declared.shared.Unshut.{Unshut}
use Rattle.relay_live.specs.declared.shared.Unshut.TheVariants as answers
use Rattle.relay_live.specs.declared.stopping.Unstopped.{Unstopped}
use Rattle.relay_live.specs.declared.stopping.Unstopped.TheVariants as unstoppeds
use Rattle.relay_model.specs.Claims.{Claim, is_storing}
use Rattle.relay_model.specs.Invariants.{IsWell}
use Rattle.relay_model.specs.State.{State}
use Rattle.relay_model.specs.Terms.{Terms}
use Rattle.relay_model.specs.World.{World}
use Rattle.post_history.specs.declared.book.Naming as naming
use Rattle.post_history.specs.Shards.{shards_in}

-- each store holds a buffer as stopped under this number, each live text of which is that of a
-- record of the register
abbrev pub AreShutWith : {S : Type 0} (s : blocks.Ghosts S) → Shelves → (stop : ℕ)
    → (stores : List S) → Type 0
AreShutWith {S} s register stop stores =
    (b : ℕ) (store : S) → slice_get stores b ≡ Some store
    → ∥ ShutWith register stop (s.heads store) (s.blocks store) ∥₁

-- the text is that of the history of each state that the parts keep, at this stop
abbrev pub TellsHistory : {S J L : Type 0} {s : blocks.Ghosts S}
    {j : store_premises.Ghosts J} {n : naming.Ghosts J}
    → Alone S J L s j n → (stop : ℕ) → List ℕ → Type 0
TellsHistory alone stop text =
    (w : Terms) (σ : State) → KeepsBeside w alone σ → Tells w stop σ text

-- no id is being stored, by all claims that the shards keep, and no write is open in a buffer
pub record IsAtRest {S J L : Type 0} {s : blocks.Ghosts S}
    {j : store_premises.Ghosts J} {n : naming.Ghosts J}
    (alone : Alone S J L s j n)
    : Type 0 where
  pub claims : (claims : List ℕ → Claim) → EachKeeps (shards_in alone.shards.items) claims
      → (id : List ℕ)
      → is_storing (claims id) ≡ false
  pub buffers : (b : ℕ) (code : Buffer S s) → slice_get (codes_of alone) b ≡ Some code
      → is_busy code ≡ false

-- an id is being stored, by all claims that the shards keep, or a write is open in a buffer
pub data IsStoring {S J L : Type 0} {s : blocks.Ghosts S}
    {j : store_premises.Ghosts J} {n : naming.Ghosts J}
    (alone : Alone S J L s j n)
    : Type 0 where
  HasClaim : ((claims : List ℕ → Claim) → EachKeeps (shards_in alone.shards.items) claims
      → (id : List ℕ) × (is_storing (claims id) ≡ true)) → IsStoring alone
  HasWrite : (b : ℕ) (code : Buffer S s) → slice_get (codes_of alone) b ≡ Some code
      → is_busy code ≡ true → IsStoring alone

-- What closing gives, at the next stop. The text tells each state that the parts kept, over any
-- stores. Each store is what the stop of its buffer leaves, in which over an honest one each
-- history is held; where the stores are trusted each live text is that of a record. So stores and
-- text are those of a relay that agreed with a world whose state the parts kept.
pub record Shuts {S J L : Type 0} {s : blocks.Ghosts S}
    {j : store_premises.Ghosts J} {n : naming.Ghosts J}
    (old : Alone S J L s j n) (stores : List S) (text : List ℕ)
    : Type 0 where
  pub rest : IsAtRest old
  pub told : TellsHistory old (next_stop (stop_in old)) text
  pub each : AreEach (IsShutOver (next_stop (stop_in old))) (codes_of old) stores
  pub known : j.trusted ≡ true → AreShutWith s j.register (next_stop (stop_in old)) stores
  pub holds : (w : Terms) (x : World) → KeepsState w old x.state x.work.failures → IsWell w x
      → IsShut s w (next_stop (stop_in old)) stores text x

-- the device of the buffer of this number failed; the stores are those of all buffers, in their
-- order
pub record IsShutPartly {S J L : Type 0} {s : blocks.Ghosts S}
    {j : store_premises.Ghosts J} {n : naming.Ghosts J}
    (old : Alone S J L s j n) (number : ℕ) (stores : List S)
    : Type 0 where
  pub place : ℕ
  pub within : place < length old.buffers.items
  pub told : number ≡ place
  pub left : AreEach (IsLeftOver place) (codes_of old) stores

-- Why the relay isn't stopped. Where an id is being stored or a write is open, and there alone, it
-- isn't idle and comes back as it was; so it does where memory was refused. Else the device of a
-- buffer has failed.
abbrev pub ComesBack : {S J L : Type 0} {s : blocks.Ghosts S}
    {j : store_premises.Ghosts J} {n : naming.Ghosts J}
    → Alone S J L s j n → Unstopped S J L s j n → Type 0
ComesBack old (unstoppeds.NotIdle back) = (back ≡ old) × IsStoring old
ComesBack old (unstoppeds.Memory back) = (back ≡ old) × IsAtRest old
ComesBack old (unstoppeds.Device number stores) =
    IsAtRest old × IsShutPartly old number stores.items

-- what stopping gives: the stores and the text of a relay that was stopped, or why it isn't
pub record ShutGives {S J L : Type 0} {s : blocks.Ghosts S}
    {j : store_premises.Ghosts J} {n : naming.Ghosts J}
    (old : Alone S J L s j n) (result : Result (Stopped S) (Unstopped S J L s j n))
    : Type 0 where
  pub shut : IfOk result (λ stopped. Shuts old stopped.stores.items stopped.history.items)
  pub gained : old.posts.lost ≡ false → IfOk result (λ stopped.
      TellGained n.began n.rings old.posts.all.history stopped.history.items)
  pub back : IfErr result (ComesBack old)

-- STEP BY STEP

-- The stores are those of the buffers so far: each is stopped, or the one at a place has failed.
-- Where none has, each live text in a store is that of a record, if stores are trusted.
abbrev pub AreKnown : {S : Type 0} (s : blocks.Ghosts S) {J : Type 0} → store_premises.Ghosts J
    → (stop : ℕ) → (failed : Option ℕ) → (stores : List S) → Type 0
AreKnown s j stop failed stores =
    failed ≡ None → j.trusted ≡ true → AreShutWith s j.register stop stores

-- what the stop of all buffers gives: the device of the one of a number has failed, or none, and
-- then each store is what the stop of its buffer leaves, where no write was open
abbrev pub IsShutAll : {S J : Type 0} {s : blocks.Ghosts S} {j : store_premises.Ghosts J}
    → (stop : ℕ)
    → List (NumberedBuffer S J s j) → (failed : Option ℕ) → (stores : List S) → Type 0
IsShutAll {S} {J} {s} {j} stop buffers failed stores =
    ((b : ℕ) (code : Buffer S s) → slice_get (map buffer_of buffers) b ≡ Some code
    → is_busy code ≡ false)
    → IsStopped stop (map buffer_of buffers) failed stores × AreKnown s j stop failed stores

-- THE SHARED RELAY

-- the other relay has as many buffers, groups, feeds and ends, and remembers as long
pub record HasAsMany {S J L : Type 0} {s : blocks.Ghosts S}
    {j : store_premises.Ghosts J} {n : naming.Ghosts J}
    (old new : Shared S J L s j n)
    : Type 0 where
  pub buffers : buffers_in new ≡ buffers_in old
  pub groups : length new.placed_groups.items ≡ length old.placed_groups.items
  pub feeds : new.feeds ≡ old.feeds
  pub ends : length new.slots.items ≡ length old.slots.items
  pub remembers : new.remember ≡ old.remember

-- the parts came out of the locks of a relay: they are as many, and have its last stop
pub record CameOut {S J L : Type 0} {s : blocks.Ghosts S}
    {j : store_premises.Ghosts J} {n : naming.Ghosts J}
    (old : Shared S J L s j n) (alone : Alone S J L s j n)
    : Type 0 where
  pub buffers : length alone.buffers.items ≡ buffers_in old
  pub groups : length alone.placed_groups.items ≡ length old.placed_groups.items
  pub feeds : alone.feeds ≡ old.feeds
  pub stop_is : stop_in alone ≡ last_stop old

-- the stores and the text are what closing gives of parts that came out of the locks
pub record ShutsParts {S J L : Type 0} {s : blocks.Ghosts S}
    {j : store_premises.Ghosts J} {n : naming.Ghosts J}
    (old : Shared S J L s j n) (stopped : Stopped S)
    : Type 0 where
  pub alone : Alone S J L s j n
  pub came : CameOut old alone
  pub shuts : Shuts alone stopped.stores.items stopped.history.items

-- the device of the buffer of this number failed while parts were closed that came out of the
-- locks; the stores are those of all buffers, in their order
pub record FailsParts {S J L : Type 0} {s : blocks.Ghosts S}
    {j : store_premises.Ghosts J} {n : naming.Ghosts J}
    (old : Shared S J L s j n) (number : ℕ) (stores : List S)
    : Type 0 where
  pub alone : Alone S J L s j n
  pub came : CameOut old alone
  pub rest : IsAtRest alone
  pub failed : IsShutPartly alone number stores

-- a relay was made of parts in which an id is being stored, or a write is open
pub record StoresParts {S J L : Type 0} {s : blocks.Ghosts S}
    {j : store_premises.Ghosts J} {n : naming.Ghosts J}
    (shared : Shared S J L s j n)
    : Type 0 where
  pub alone : Alone S J L s j n
  pub slots : ℕ
  pub parts : HasParts shared alone slots
  pub storing : IsStoring alone

-- A relay that isn't stopped for want of memory or as it isn't idle goes on, as large as it was; in
-- what goes behind its locks again an id is being stored, or a write is open, where it isn't idle.
-- Where a device failed, it is one of its buffers', and there is a store of each.
abbrev pub IsUnshut : {S J L : Type 0} {s : blocks.Ghosts S}
    {j : store_premises.Ghosts J} {n : naming.Ghosts J}
    → Shared S J L s j n → Unshut S J L s j n → Type 0
IsUnshut old (answers.NotIdle back) = HasAsMany old back × StoresParts back
IsUnshut old (answers.Memory back want) = HasAsMany old back
IsUnshut old (answers.Device number stores) =
    ((number < buffers_in old) × (length stores.items ≡ buffers_in old))
    × FailsParts old number stores.items
