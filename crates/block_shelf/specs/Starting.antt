-- A buffer set that is started from what was left on its stores (docs/PROTOCOL.md, Clean stop and
-- start).
use Rattle.std.specs.Prelude.{◌≡◌, ◌≢◌, ℕ, ◌+◌, ◌<◌, Bool, true, false, List, [], ◌∷◌, ◌++◌, map}
use Rattle.std.specs.Prelude.{◌==◌, if◌then◌else◌, length, min, All, Option, None, Some, slice_get}
use Rattle.std.specs.Prelude.{vec_len, vec_capacity}
use Rattle.cyc_block.specs.declared.store.BlockStore.{Ghosts}
use Rattle.cyc_buffer.specs.Agreement.{Agrees, store_of}
use Rattle.cyc_buffer.specs.Head.{has_open_head, inside, is_busy, said_of, stop_of}
use Rattle.cyc_buffer.specs.History.{History}
use Rattle.cyc_buffer.specs.Reads.{StaysHeld}
use Rattle.cyc_buffer.specs.Starting.{IsOutside, IsReason, Starts, blocks_in}
use Rattle.cyc_buffer.specs.Stopped.{HoldsStopped, Says}
use Rattle.cyc_buffer.specs.declared.answers.StartError.{StartError}
use Rattle.cyc_buffer.specs.declared.answers.StartError.TheVariants as errors
use Rattle.cyc_buffer.specs.declared.buffer.Buffer.{Buffer}
use Rattle.cyc_buffer.specs.declared.unopened.Unopened.{Unopened}
use Rattle.cyc_token.specs.declared.Token as code
use Rattle.news_terms.specs.Courses.{Course, IsLaid}
use Rattle.news_terms.specs.Fronts.{FitsGroup}
use Rattle.news_terms.specs.HeadBlocks.{Closed, head_blocks}
use Rattle.news_terms.specs.Places as places
use Rattle.news_terms.specs.Places.{Extent, Group}
use Rattle.news_terms.specs.Settings.{AreSound}
use Rattle.relay_conf.specs.Settings.{places_of_buffers, places_of_groups}
use Rattle.relay_conf.specs.declared.settings.Buffers.{Buffers}
use Rattle.relay_model.specs.State.{Kept}
use Rattle.relay_model.specs.Terms.{Terms}
use Rattle.block_shelf.specs.Each.{AreEach}
use Rattle.block_shelf.specs.Keeping.{AreLeft, HasBuffer, HasPlacedGroup}
use Rattle.block_shelf.specs.Stopping.{ArePositions, HoldsLeft, HoldsTexts}
use Rattle.block_shelf.specs.declared.buffer_set.PlacedGroup.{PlacedGroup}
use Rattle.block_shelf.specs.declared.starting.StopFault.{StopFault}
use Rattle.block_shelf.specs.declared.starting.StopFault.TheVariants as faults
use Rattle.block_shelf.specs.declared.starting.Starting.{Starting}
use Rattle.block_shelf.specs.declared.starting.Starting.TheVariants as states
use Rattle.block_shelf.specs.declared.starting.Unstarted.{Unstarted}
use Rattle.block_shelf.specs.declared.opening.UnopenedBufferSet.{UnopenedBufferSet}

-- WHAT IT KEEPS

-- the buffers of a started buffer set
abbrev pub buffers_inside : {S : Type 0} {g : Ghosts S} → List (Unopened S g) → List (Buffer S g)
buffers_inside unopened = map inside unopened

-- These buffers keep, with these buffers and groups, these courses, texts and counts of failures;
-- no write is open. Their stores are honest.
pub record BuffersKeep {S : Type 0} {g : Ghosts S} (codes : List (Buffer S g)) (w : Terms)
    (begun : ℕ → Course) (kept : List Kept) (failures : ℕ → ℕ)
    : Type 0 where
  pub sound : AreSound w.buffers w.groups
  pub numbered : (b : ℕ) (buffer : places.Buffer) → slice_get w.buffers b ≡ Some buffer
      → buffer.number ≡ b
  pub fit : (h : ℕ) (group : Group) → slice_get w.groups h ≡ Some group
      → All (λ (one : Extent). FitsGroup group one.size) (begun h).articles
  pub laid : (h : ℕ) (group : Group) → slice_get w.groups h ≡ Some group
      → IsLaid group (begun h)
  pub count : length codes ≡ length w.buffers
  pub buffers : (b : ℕ) (buffer : places.Buffer) → slice_get w.buffers b ≡ Some buffer
      → HasBuffer true codes w.groups begun kept (λ h. None) failures b buffer

-- so the buffers of a started buffer set do
abbrev pub HoldsStarted : {S : Type 0} {g : Ghosts S} → UnopenedBufferSet S g → Terms
    → (ℕ → Course) → List Kept → (ℕ → ℕ) → Type 0
HoldsStarted buffer_set w begun kept failures =
    BuffersKeep (buffers_inside buffer_set.buffers.items) w begun kept failures

-- the placed groups are where the groups are on these courses
pub record PlacedGroupsKeep (placed_groups : List PlacedGroup) (w : Terms) (begun : ℕ → Course)
    : Type 0 where
  pub count : length placed_groups ≡ length w.groups
  pub each : (h : ℕ) (group : Group) → slice_get w.groups h ≡ Some group
      → HasPlacedGroup placed_groups (begun h) h group

-- the started buffer set keeps, over honest stores, or also such as a crash may leave, what it will
-- keep once its heads are open
pub record WillKeep {S : Type 0} {g : Ghosts S} (may_be_left : Bool)
    (buffer_set : UnopenedBufferSet S g) (w : Terms) (begun : ℕ → Course) (kept : List Kept)
    (failures : ℕ → ℕ)
    : Type 0 where
  pub texts : HoldsStarted buffer_set w begun kept failures
  pub left : may_be_left ≡ true
      → AreLeft (buffers_inside buffer_set.buffers.items) w begun kept failures
  pub placed_groups : PlacedGroupsKeep buffer_set.placed_groups.items w begun

-- what stores hold as stopped under this number, with the buffers and groups of the settings
abbrev pub IsHeldBy : {S : Type 0} → Ghosts S → Buffers → (stores : List S) → (stop : ℕ) → Terms
    → (ℕ → Course) → List Kept → (ℕ → ℕ) → Type 0
IsHeldBy g settings stores stop w begun kept failures =
    (w.buffers ≡ places_of_buffers settings) × (w.groups ≡ places_of_groups settings)
    × HoldsTexts g stores stop w begun kept failures

-- the buffers of a started buffer set over these stores keep all that they hold as stopped
abbrev pub KeepsHeld : {S : Type 0} {g : Ghosts S} → Buffers → (stores : List S) → (stop : ℕ)
    → UnopenedBufferSet S g → Type 0
KeepsHeld {g = g} settings stores stop buffer_set =
    (w : Terms) (begun : ℕ → Course) (kept : List Kept) (failures : ℕ → ℕ)
    → IsHeldBy g settings stores stop w begun kept failures
    → HoldsStarted buffer_set w begun kept failures

-- its groups at these positions, it will keep all that once its heads are open
abbrev pub WillKeepHeld : {S : Type 0} {g : Ghosts S} → Buffers → (stores : List S) → (stop : ℕ)
    → (positions : List ℕ) → UnopenedBufferSet S g → Type 0
WillKeepHeld {g = g} settings stores stop positions buffer_set =
    (may_be_left : Bool) (w : Terms) (begun : ℕ → Course) (kept : List Kept) (failures : ℕ → ℕ)
    → IsHeldBy g settings stores stop w begun kept failures
    → (may_be_left ≡ true → HoldsLeft g stores stop w begun kept failures)
    → ArePositions w.groups begun positions
    → WillKeep may_be_left buffer_set w begun kept failures

-- the stores of a started buffer set
abbrev pub stores_inside : {S : Type 0} {g : Ghosts S} → UnopenedBufferSet S g → List S
stores_inside {S} {g} buffer_set =
    map (λ (one : Unopened S g). store_of (inside one)) buffer_set.buffers.items

-- EACH BUFFER

-- the buffer of this number over a store, whose first cycle is 0
abbrev pub buffer_over : {S : Type 0} → Ghosts S → ℕ → S → places.Buffer
buffer_over g number store =
    record { number = number; blocks = length (g.blocks store); first_cycle = 0 }

-- the store is that of the buffer of this number, stopped under a number, and nothing is wrong
abbrev pub CanStart : {S : Type 0} → Ghosts S → (number : ℕ) → S → (stop : ℕ) → Type 0
CanStart g number store stop =
    (tokens : List code.Token)
    × Starts (g.heads store) (g.blocks store) (buffer_over g number store) stop tokens

-- the buffer of this number was started from a store
pub record IsStartedOver {S : Type 0} {g : Ghosts S} (number : ℕ) (store : S)
    (unopened : Unopened S g)
    : Type 0 where
  pub agrees : g.honest store → (stop : ℕ) (h : History)
      → HoldsStopped (g.heads store) (g.blocks store) stop h
      → h.buffer ≡ buffer_over g number store → Agrees true (inside unopened) h
  pub stop : g.honest store → (stop : ℕ) (h : History)
      → HoldsStopped (g.heads store) (g.blocks store) stop h
      → stop_of (inside unopened) ≡ stop
  -- each head block was read once, and each block of each of these tokens' articles
  pub tokens : List code.Token
  pub starts : g.honest store → Starts (g.heads store) (g.blocks store)
      (buffer_over g number store) (stop_of (inside unopened)) tokens
  -- it is as far as its head block says
  pub said : g.honest store → Says (g.heads store) (buffer_over g number store)
      (said_of Closed (stop_of (inside unopened)) (inside unopened))
  pub calls : g.calls (store_of (inside unopened))
      ≡ g.calls store + head_blocks (length (g.blocks store)) + blocks_in tokens
  pub no_failure : g.failures (store_of (inside unopened)) ≡ g.failures store
  -- it is idle, its head isn't open, and nothing was written
  pub unopened_head : has_open_head (inside unopened) ≡ false
  pub idle : is_busy (inside unopened) ≡ false
  pub held : StaysHeld g store (store_of (inside unopened))

-- the buffers were started from these stores, in their order, all of which were stopped under this
-- number
pub record AreStarted {S : Type 0} {g : Ghosts S} (stores : List S) (stop : ℕ)
    (unopened : List (Unopened S g))
    : Type 0 where
  pub over : AreEach IsStartedOver stores unopened
  pub under : (b : ℕ) (one : Unopened S g) → slice_get unopened b ≡ Some one
      → stop_of (inside one) ≡ stop

-- a store comes back unwritten, and its device hasn't failed but where that is the fault
pub record IsUnwritten {S : Type 0} (g : Ghosts S) (failed : Option ℕ) (b : ℕ) (old new : S)
    : Type 0 where
  pub held : StaysHeld g old new
  pub failed_here : failed ≡ Some b → g.failures old < g.failures new
  pub no_failure : failed ≢ Some b → g.failures new ≡ g.failures old

-- a buffer set was started from these stores, which are unwritten, and all of which were stopped
-- under this number
pub record IsStartedBufferSet {S : Type 0} {g : Ghosts S} (stores : List S) (stop : ℕ)
    (buffer_set : UnopenedBufferSet S g)
    : Type 0 where
  pub started : AreStarted stores stop buffer_set.buffers.items
  pub unwritten : AreEach (IsUnwritten g None) stores (stores_inside buffer_set)

-- The placed groups are those of the settings' groups at these positions: where the buffers keep
-- what was begun, and the positions are those of the groups, the placed groups are where that has
-- brought the groups.
abbrev pub ResumePlacedGroups : {S : Type 0} {g : Ghosts S} → Buffers → (positions : List ℕ)
    → List (Buffer S g) → List PlacedGroup → Type 0
ResumePlacedGroups settings positions codes placed_groups =
    (w : Terms) (begun : ℕ → Course) (kept : List Kept) (failures : ℕ → ℕ)
    → w.groups ≡ places_of_groups settings → BuffersKeep codes w begun kept failures
    → ArePositions w.groups begun positions → PlacedGroupsKeep placed_groups w begun

-- WHY A BUFFER SET ISN'T STARTED

-- the fault of a start of a buffer, as the relay's
abbrev pub fault_of_start : StartError → StopFault
fault_of_start errors.Memory = faults.Memory
fault_of_start errors.Device = faults.Device
fault_of_start errors.NoHead = faults.NoHead
fault_of_start errors.Unclosed = faults.Unclosed
fault_of_start errors.Damaged = faults.Damaged

-- the number of a buffer, but for want of memory
abbrev pub number_told : StartError → ℕ → Option ℕ
number_told errors.Memory number = None
number_told errors.Device number = Some number
number_told errors.NoHead number = Some number
number_told errors.Unclosed number = Some number
number_told errors.Damaged number = Some number

-- an honest store of each buffer before this one can be started
abbrev pub EarlierStart : {S : Type 0} → Ghosts S → List S → (place : ℕ) → Type 0
EarlierStart {S} g stores place =
    (b : ℕ) (one : S) → b < place → slice_get stores b ≡ Some one → g.honest one
    → (stop : ℕ) × CanStart g b one stop

-- at which buffer the device failed, if that is the fault
abbrev pub failed_at : StartError → (place : ℕ) → Option ℕ
failed_at errors.Memory place = None
failed_at errors.Device place = Some place
failed_at errors.NoHead place = None
failed_at errors.Unclosed place = None
failed_at errors.Damaged place = None

-- the start of the buffer at this place is refused, and none before it: an honest store for the
-- first reason that its blocks give
pub record IsRefusedAt {S : Type 0} (g : Ghosts S) (stores : List S) (error : StartError)
    (back : List S)
    : Type 0 where
  pub place : ℕ
  pub store : S
  pub there : slice_get stores place ≡ Some store
  pub reason : g.honest store
      → IsReason (g.heads store) (g.blocks store) (buffer_over g place store) error
  -- what it holds as stopped is no reason
  pub outside : g.honest store → (stop : ℕ) (h : History)
      → HoldsStopped (g.heads store) (g.blocks store) stop h
      → h.buffer ≡ buffer_over g place store → IsOutside error
  pub earlier : EarlierStart g stores place
  pub back_each : AreEach (IsUnwritten g (failed_at error place)) stores back

-- every buffer can be started; the one at this place was stopped under another number, and each
-- before it under this
pub record IsMixedAt {S : Type 0} (g : Ghosts S) (stores : List S) (stop place : ℕ) (back : List S)
    : Type 0 where
  pub store : S
  pub there : slice_get stores place ≡ Some store
  pub other : g.honest store → (found : ℕ) × (found ≢ stop) × CanStart g place store found
  pub same : (b : ℕ) (one : S) → b < place → slice_get stores b ≡ Some one → g.honest one
      → CanStart g b one stop
  pub all : EarlierStart g stores (length stores)
  pub back_each : AreEach (IsUnwritten g None) stores back

-- The fault of a buffer is told with its number, in the order of the buffers; then the first that
-- was stopped under another number; memory may be refused in place of each. Nothing is written.
abbrev pub IsUnstartedBy : {S : Type 0} → Ghosts S → (stores : List S) → (stop : ℕ) → StopFault
    → Option ℕ → (back : List S) → Type 0
IsUnstartedBy g stores stop faults.Memory buffer back =
    (buffer ≡ None) × AreEach (IsUnwritten g None) stores back
IsUnstartedBy g stores stop faults.Device buffer back =
    (why : IsRefusedAt g stores errors.Device back) × (buffer ≡ Some why.place)
IsUnstartedBy g stores stop faults.NoHead buffer back =
    (why : IsRefusedAt g stores errors.NoHead back) × (buffer ≡ Some why.place)
IsUnstartedBy g stores stop faults.Unclosed buffer back =
    (why : IsRefusedAt g stores errors.Unclosed back) × (buffer ≡ Some why.place)
IsUnstartedBy g stores stop faults.Damaged buffer back =
    (why : IsRefusedAt g stores errors.Damaged back) × (buffer ≡ Some why.place)
IsUnstartedBy g stores stop faults.BadHistory buffer back = ⊥
IsUnstartedBy g stores stop faults.Mixed buffer back =
    (place : ℕ) × (buffer ≡ Some place) × IsMixedAt g stores stop place back
IsUnstartedBy g stores stop faults.Ahead buffer back = ⊥

abbrev pub IsUnstarted : {S : Type 0} → Ghosts S → (stores : List S) → (stop : ℕ) → Unstarted S
    → Type 0
IsUnstarted g stores stop refused =
    IsUnstartedBy g stores stop refused.error refused.buffer refused.stores.items

-- the fault has nothing to do with what the stores hold
abbrev pub IsFromOutside : StopFault → Type 0
IsFromOutside faults.Memory = Unit {0}
IsFromOutside faults.Device = Unit {0}
IsFromOutside faults.NoHead = ⊥
IsFromOutside faults.Unclosed = ⊥
IsFromOutside faults.Damaged = ⊥
IsFromOutside faults.BadHistory = ⊥
IsFromOutside faults.Mixed = ⊥
IsFromOutside faults.Ahead = ⊥

-- what was stopped under this number, with these buffers and groups, is refused for no other fault
abbrev pub HasCause : {S : Type 0} → Ghosts S → Buffers → (stores : List S) → (stop : ℕ)
    → Unstarted S → Type 0
HasCause g settings stores stop refused =
    (w : Terms) (begun : ℕ → Course) (kept : List Kept) (failures : ℕ → ℕ)
    → IsHeldBy g settings stores stop w begun kept failures → IsFromOutside refused.error

-- STEP BY STEP

-- the first number of a buffer that was stopped under another number, in the order of the buffers
abbrev pub IsFirstOther : {S : Type 0} {g : Ghosts S} → (stop : ℕ) → List (Unopened S g) → Option ℕ
    → Type 0
IsFirstOther {S} {g} stop buffers None =
    (b : ℕ) (one : Unopened S g) → slice_get buffers b ≡ Some one
    → stop_of (inside one) ≡ stop
IsFirstOther {S} {g} stop buffers (Some place) =
    ((one : Unopened S g) × (slice_get buffers place ≡ Some one)
    × (stop_of (inside one) ≢ stop))
    × ((b : ℕ) (one : Unopened S g) → b < place → slice_get buffers b ≡ Some one
    → stop_of (inside one) ≡ stop)

-- the start of a buffer over these stores is refused for this fault, which is told with its number
abbrev pub IsTriedRefusal : {S : Type 0} → Ghosts S → (before : List S) → StopFault → Option ℕ
    → (back : List S) → Type 0
IsTriedRefusal g before fault number back =
    (start : StartError) × (fault ≡ fault_of_start start)
    × ((why : IsRefusedAt g before start back) × (number ≡ number_told start why.place))

-- how a start stands after these stores: all their buffers were started, or it was refused
abbrev pub HasTried : {S : Type 0} {g : Ghosts S} → (stop : ℕ) → (before : List S) → Starting S g
    → Type 0
HasTried {g = g} stop before (states.Started buffers stores mixed) =
    AreEach IsStartedOver before buffers.items × (stores.items ≡ [])
    × IsFirstOther stop buffers.items mixed
HasTried {g = g} stop before (states.Refused stores number error) =
    IsTriedRefusal g before error number stores.items

-- the next buffer is started behind those that are, or not
abbrev pub StartsNext : {S : Type 0} {g : Ghosts S} → (stop : ℕ) → S → List (Unopened S g)
    → (room : List S) → (mixed : Option ℕ) → Starting S g → Type 0
StartsNext {S} stop store buffers room mixed new =
    (before : List S) → AreEach IsStartedOver before buffers → room ≡ []
    → IsFirstOther stop buffers mixed → HasTried stop (before ++ store ∷ []) new

-- the number of the first buffer that was stopped at another stop, with one more
abbrev pub other_after : Option ℕ → (found stop number : ℕ) → Option ℕ
other_after (Some first) found stop number = Some first
other_after None found stop number = if found == stop then None else Some number

-- how many buffers and stores it has
abbrev pub tried_count : {S : Type 0} {g : Ghosts S} → Starting S g → ℕ
tried_count (states.Started buffers stores mixed) = vec_len buffers + vec_len stores
tried_count (states.Refused stores number error) = vec_len stores

-- for how many it has room
abbrev pub tried_room : {S : Type 0} {g : Ghosts S} → Starting S g → ℕ
tried_room (states.Started buffers stores mixed) = min (vec_capacity buffers) (vec_capacity stores)
tried_room (states.Refused stores number error) = vec_capacity stores

-- the next store is tried, where none before it was refused
abbrev pub TriesNext : {S : Type 0} {g : Ghosts S} → (stop : ℕ) → S → (old new : Starting S g)
    → Type 0
TriesNext {S} stop store old new =
    (before : List S) → HasTried stop before old → HasTried stop (before ++ store ∷ []) new
