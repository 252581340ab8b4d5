-- All buffers of a relay that was not stopped are found again from what is left on its stores
-- (docs/PROTOCOL.md, Crashes).
use Rattle.std.specs.Prelude.{◌≡◌, ℕ, ◌+◌, ◌<◌, ◌≤◌, Bool, true, false, List, [], ◌∷◌, ◌++◌, map}
use Rattle.std.specs.Prelude.{length, min, Option, None, Some, slice_get, vec_len}
use Rattle.std.specs.Prelude.{vec_capacity}
use Rattle.std.specs.List.{Contains}
use Rattle.cyc_block.specs.declared.store.BlockStore.{Ghosts}
use Rattle.cyc_buffer.specs.Agreement.{Agrees}
use Rattle.cyc_buffer.specs.Crash.{CountsFound, IsFoundIn, IsLeftOf, IsOfHistory}
use Rattle.cyc_buffer.specs.Crash.{IsStopOf, IsUnfound, Tells}
use Rattle.cyc_buffer.specs.Head.{has_open_head, is_busy, stop_of}
use Rattle.cyc_buffer.specs.History.{History}
use Rattle.cyc_buffer.specs.Reads.{StaysHeld}
use Rattle.cyc_buffer.specs.Remembered.{AreWithin, ListsStarts, is_start, place_of}
use Rattle.cyc_buffer.specs.Scanning.{HasFrontOn}
use Rattle.cyc_buffer.specs.Starting.{ListsLive}
use Rattle.cyc_buffer.specs.declared.answers.StartError.{StartError}
use Rattle.cyc_buffer.specs.declared.answers.StartError.TheVariants as errors
use Rattle.cyc_buffer.specs.declared.buffer.Buffer.{Buffer}
use Rattle.cyc_buffer.specs.declared.starting.Started.{Started}
use Rattle.cyc_token.specs.Token.{token_view}
use Rattle.cyc_token.specs.declared.Token as code
use Rattle.news_terms.specs.Token.{Token}
use Rattle.block_shelf.specs.Each.{AreEach}
use Rattle.block_shelf.specs.Starting.{IsUnwritten, buffer_over, failed_at, fault_of_start}
use Rattle.block_shelf.specs.Starting.{number_told}
use Rattle.block_shelf.specs.declared.starting.StopFault.{StopFault}
use Rattle.block_shelf.specs.declared.starting.StopFault.TheVariants as faults
use Rattle.block_shelf.specs.declared.starting.Unstarted.{Unstarted}
use Rattle.buffer_repair.specs.Parts.{AreIdle, buffer_in, remains_of, store_in, tokens_in}
use Rattle.buffer_repair.specs.Remains.{Remains, history_left}
use Rattle.buffer_repair.specs.declared.finding.Finding.{Finding}
use Rattle.buffer_repair.specs.declared.finding.Finding.TheVariants as states
use Rattle.buffer_repair.specs.declared.found_set.FoundBufferSet.{FoundBufferSet}

-- WHAT WAS FOUND

-- the tokens of what was found in the buffer of a number, none where there is no such buffer
abbrev pub tokens_at : {S : Type 0} {g : Ghosts S} → FoundBufferSet S g → (number : ℕ)
    → List code.Token
tokens_at found_set number = tokens_in (slice_get found_set.found.items number)

-- the buffers of a set that was found again
abbrev pub buffers_in : {S : Type 0} {g : Ghosts S} → FoundBufferSet S g → List (Buffer S g)
buffers_in {S} {g} found_set = map (λ (one : Started S g). buffer_in one) found_set.found.items

-- its stores, in the order of the buffers
abbrev pub stores_in : {S : Type 0} {g : Ghosts S} → FoundBufferSet S g → List S
stores_in {S} {g} found_set = map (λ (one : Started S g). store_in one) found_set.found.items

-- what is left of all buffers
abbrev pub remains_in : {S : Type 0} {g : Ghosts S} → FoundBufferSet S g → List Remains
remains_in {S} {g} found_set = map (λ (one : Started S g). remains_of one) found_set.found.items

-- EACH BUFFER

-- The buffer of this number was found again over a store: all that a recovery says of it.
pub record IsFoundOver {S : Type 0} {g : Ghosts S} (number : ℕ) (store : S) (one : Started S g)
    : Type 0 where
  -- what is found is what the blocks say, its front is theirs, and the stop is its head's
  pub found : g.honest store
      → IsFoundIn (g.blocks store) (buffer_over g number store) one.tokens.items
  pub front : g.honest store
      → HasFrontOn (buffer_in one) (buffer_over g number store) (g.blocks store)
  pub stop : g.honest store → IsStopOf (g.heads store) (buffer_over g number store) one.stop
  -- it is a buffer of this number, and agrees with the history that it is found again with
  pub place : g.honest store → 1 ≤ length (g.blocks store)
      → place_of (buffer_in one) ≡ buffer_over g number store
  pub history : g.honest store → 1 ≤ length (g.blocks store)
      → Agrees true (buffer_in one) (history_left (remains_of one))
  -- it agrees with each history that the device tells and that counts so, and lists what is live
  pub agrees : g.honest store → (h : History) → Tells (g.blocks store) h
      → h.buffer ≡ buffer_over g number store → CountsFound h one.tokens.items
      → Agrees true (buffer_in one) h
  pub listed : g.honest store → (h : History) → Tells (g.blocks store) h
      → h.buffer ≡ buffer_over g number store → ListsLive one.tokens.items h
  -- where a crash has left the device of a history, what was to be kept is found, and what is found
  -- was begun
  pub kept : g.honest store → (h : History) (kept : Token → Bool)
      → IsLeftOf h kept (g.blocks store) → h.buffer ≡ buffer_over g number store
      → (t : code.Token) → kept (token_view t) ≡ true → Contains one.tokens.items t
  pub begun : g.honest store → (h : History) (kept : Token → Bool)
      → IsLeftOf h kept (g.blocks store) → h.buffer ≡ buffer_over g number store
      → (t : code.Token) → Contains one.tokens.items t
      → IsOfHistory h (g.blocks store) (token_view t)
  -- each block where an article begins, by the buffer's marks, is a listed one's first, whatever
  -- the store holds
  pub starts : ListsStarts 0 (length (g.blocks store)) (is_start (buffer_in one)) one.tokens.items
  pub within : AreWithin (length (g.blocks store)) one.tokens.items
  -- it is idle, has not opened its head, and remembers the stop
  pub unopened : has_open_head (buffer_in one) ≡ false
  pub idle : is_busy (buffer_in one) ≡ false
  pub under : stop_of (buffer_in one) ≡ one.stop
  -- nothing was written, head block 0 and each block were read once, and the device hasn't failed
  pub held : StaysHeld g store (store_in one)
  pub calls : g.calls (store_in one) ≡ g.calls store + 1 + length (g.blocks store)
  pub no_failure : g.failures (store_in one) ≡ g.failures store

-- the buffers were found again over these stores, in their order
abbrev pub AreFoundOver : {S : Type 0} {g : Ghosts S} → (stores : List S)
    → List (Started S g) → Type 0
AreFoundOver stores found = AreEach IsFoundOver stores found

-- the stores of a set that was found again are unwritten
abbrev pub AreLeftUnwritten : {S : Type 0} (g : Ghosts S) → (stores : List S)
    → FoundBufferSet S g → Type 0
AreLeftUnwritten g stores found_set = AreEach (IsUnwritten g None) stores (stores_in found_set)

-- WHY THEY AREN'T FOUND

-- head block 0 of an honest store of each buffer before this one is that of a buffer
abbrev pub AreEarlierHeads : {S : Type 0} → Ghosts S → List S → (place : ℕ) → Type 0
AreEarlierHeads {S} g stores place =
    (b : ℕ) (one : S) → b < place → slice_get stores b ≡ Some one → g.honest one
    → (stop : ℕ) × IsStopOf (g.heads one) (buffer_over g b one) stop

-- The buffer at this place isn't found again, and each before it is: over an honest store for the
-- reason that its head block gives.
pub record IsUnfoundAt {S : Type 0} (g : Ghosts S) (stores : List S) (error : StartError)
    (back : List S)
    : Type 0 where
  pub place : ℕ
  pub store : S
  pub there : slice_get stores place ≡ Some store
  pub reason : g.honest store → IsUnfound (g.heads store) (buffer_over g place store) error
  pub earlier : AreEarlierHeads g stores place
  pub back_each : AreEach (IsUnwritten g (failed_at error place)) stores back

-- The fault of a buffer, told with its number: want of memory, which may come before any buffer is
-- looked at, its device, or a head that is none of a buffer's. Honest stores give no other reason.
-- Nothing is written.
abbrev pub IsUnfoundBy : {S : Type 0} → Ghosts S → (stores : List S) → StopFault → Option ℕ
    → (back : List S) → Type 0
IsUnfoundBy g stores faults.Memory buffer back =
    (buffer ≡ None) × AreEach (IsUnwritten g None) stores back
IsUnfoundBy g stores faults.Device buffer back =
    (why : IsUnfoundAt g stores errors.Device back) × (buffer ≡ Some why.place)
IsUnfoundBy g stores faults.NoHead buffer back =
    (why : IsUnfoundAt g stores errors.NoHead back) × (buffer ≡ Some why.place)
IsUnfoundBy g stores faults.Unclosed buffer back =
    (why : IsUnfoundAt g stores errors.Unclosed back) × (buffer ≡ Some why.place)
IsUnfoundBy g stores faults.Damaged buffer back =
    (why : IsUnfoundAt g stores errors.Damaged back) × (buffer ≡ Some why.place)
IsUnfoundBy g stores faults.BadHistory buffer back = ⊥
IsUnfoundBy g stores faults.Mixed buffer back = ⊥
IsUnfoundBy g stores faults.Ahead buffer back = ⊥

-- so a refused set of buffers says
abbrev pub IsUnfoundSet : {S : Type 0} → Ghosts S → (stores : List S) → Unstarted S → Type 0
IsUnfoundSet g stores refused =
    IsUnfoundBy g stores refused.error refused.buffer refused.stores.items

-- STEP BY STEP

-- the buffer of one of these stores isn't found again, for this fault, told with this number
abbrev pub IsFindingRefusal : {S : Type 0} → Ghosts S → (before : List S) → StopFault → Option ℕ
    → (back : List S) → Type 0
IsFindingRefusal g before fault number back =
    (error : StartError) × (fault ≡ fault_of_start error)
    × ((why : IsUnfoundAt g before error back) × (number ≡ number_told error why.place))

-- how a finding stands after these stores: all their buffers are found, or one is refused
abbrev pub HasFound : {S : Type 0} {g : Ghosts S} → (before : List S) → Finding S g → Type 0
HasFound {g = g} before (states.Found found stores) =
    AreFoundOver before found.items × (stores.items ≡ [])
HasFound {g = g} before (states.Refused stores number error) =
    IsFindingRefusal g before error number stores.items

-- no write is open in those that are found
abbrev pub tried_idle : {S : Type 0} {g : Ghosts S} → Finding S g → Type 0
tried_idle (states.Found found stores) = AreIdle found.items
tried_idle (states.Refused stores number error) = Unit {0}

-- the next buffer is found behind those that are, or not
abbrev pub FindsNext : {S : Type 0} {g : Ghosts S} → S → List (Started S g) → (room : List S)
    → Finding S g → Type 0
FindsNext {S} store found room new =
    (before : List S) → AreFoundOver before found → room ≡ []
    → HasFound (before ++ store ∷ []) new

-- how many buffers and stores it has
abbrev pub tried_count : {S : Type 0} {g : Ghosts S} → Finding S g → ℕ
tried_count (states.Found found stores) = vec_len found + vec_len stores
tried_count (states.Refused stores number error) = vec_len stores

-- for how many it has room
abbrev pub tried_room : {S : Type 0} {g : Ghosts S} → Finding S g → ℕ
tried_room (states.Found found stores) = min (vec_capacity found) (vec_capacity stores)
tried_room (states.Refused stores number error) = vec_capacity stores

-- the next store is tried, where none before it was refused
abbrev pub TriesNext : {S : Type 0} {g : Ghosts S} → S → (old new : Finding S g) → Type 0
TriesNext {S} store old new =
    (before : List S) → HasFound before old → HasFound (before ++ store ∷ []) new
