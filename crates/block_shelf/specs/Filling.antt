-- A buffer set before anything is begun, over stores of which the i-th is that of buffer i
-- (docs/PROTOCOL.md, Store).
use Rattle.std.specs.Prelude.{◌≡◌, ◌<◌, ◌+◌, ℕ, Bool, true, List, [], length, None, Some, slice_get}
use Rattle.std.specs.Prelude.{All, option_map, unwrap_or, map, filter_map}
use Rattle.buffer_group.specs.Groups.{blocks_in}
use Rattle.cyc_block.specs.declared.store.BlockStore.{Ghosts}
use Rattle.cyc_buffer.specs.Agreement.{Agrees, store_of}
use Rattle.cyc_buffer.specs.Head.{has_open_head, LeavesBlocks}
use Rattle.cyc_buffer.specs.History.{new_history}
use Rattle.cyc_buffer.specs.declared.buffer.Buffer.{Buffer}
use Rattle.news_terms.specs.Courses.{first_course}
use Rattle.news_terms.specs.Places as places
use Rattle.relay_conf.specs.Places.{numbered_buffers}
use Rattle.relay_conf.specs.declared.cycbuff.BufferConf.{BufferConf}
use Rattle.relay_conf.specs.Settings.{places_of_buffers, places_of_groups}
use Rattle.relay_conf.specs.declared.settings.Buffers.{Buffers}
use Rattle.relay_model.specs.Terms.{Terms}
use Rattle.block_shelf.specs.Keeping.{KeepsTexts, HasPlacedGroup}
use Rattle.block_shelf.specs.Leaving.{IsFresh, Trust}
use Rattle.block_shelf.specs.declared.filling.BufferSetError.{BufferSetError}
use Rattle.block_shelf.specs.declared.filling.BufferSetError.TheVariants as errors
use Rattle.block_shelf.specs.declared.buffer_set.PlacedGroup.{PlacedGroup}
use Rattle.block_shelf.specs.declared.beginning.BeginError.{BeginError}
use Rattle.block_shelf.specs.declared.beginning.BeginError.TheVariants as begins
use Rattle.block_shelf.specs.declared.buffer_set.BufferSet.{BufferSet}

-- how often the device at each place of a list has failed, 0 where there is none
abbrev pub failures_in : {S : Type 0} (g : Ghosts S) → List S → ℕ → ℕ
failures_in g stores b = unwrap_or (option_map g.failures (slice_get stores b)) 0

-- nothing was begun in any buffer of the settings, and the buffer set keeps that; a crash may leave
-- its stores where they were fresh
abbrev pub KeepsNothing : {S : Type 0} {g : Ghosts S} → Buffers → (stores : List S) → BufferSet S g
    → Type 0
KeepsNothing {g = g} settings stores buffer_set =
    (trusted : Trust) → (trusted.honest ≡ true → All g.honest stores)
    → (trusted.left ≡ true → All (IsFresh g) stores) → (w : Terms)
    → w.buffers ≡ places_of_buffers settings → w.groups ≡ places_of_groups settings
    → KeepsTexts trusted buffer_set w (λ h. first_course) [] (λ h. None) (failures_in g stores)

-- the buffer of this number over a store, in which nothing was begun
pub record IsNewOver {S : Type 0} {g : Ghosts S} (number : ℕ) (store : S) (code : Buffer S g)
    : Type 0 where
  pub agrees : (trusted : Bool) → (trusted ≡ true → g.honest store)
      → Agrees trusted code (new_history (record {
        number = number;
        blocks = length (g.blocks store);
        first_cycle = 0;
      }))
  pub opened : has_open_head code ≡ true
  -- the device was called once, and hasn't failed
  pub calls : g.calls (store_of code) ≡ g.calls store + 1
  pub failures : g.failures (store_of code) ≡ g.failures store
  pub blocks : LeavesBlocks g store (store_of code)

-- the buffer at this place is a new one over the store at this place
pub record HasNewOver {S : Type 0} {g : Ghosts S} (codes : List (Buffer S g)) (b : ℕ) (store : S)
    : Type 0 where
  pub code : Buffer S g
  pub there : slice_get codes b ≡ Some code
  pub is_new : IsNewOver b store code

-- the buffers are new ones over these stores, in their order
pub record AreNewOver {S : Type 0} {g : Ghosts S} (stores : List S) (codes : List (Buffer S g))
    : Type 0 where
  pub count : length codes ≡ length stores
  pub each : (b : ℕ) (store : S) → slice_get stores b ≡ Some store → HasNewOver codes b store

-- the store is the one at a place of a list, and its device has failed since
pub record HasFailedAt {S : Type 0} (g : Ghosts S) (stores : List S) (number : ℕ) (store : S)
    : Type 0
  where
    pub before : S
    pub there : slice_get stores number ≡ Some before
    pub failed : g.failures before < g.failures store

-- a buffer of this number isn't made over a store where memory was refused, or its device failed
abbrev pub IsRefusalOver : {S : Type 0} (g : Ghosts S) (store : S) (number : ℕ) → BufferSetError S
    → Type 0
IsRefusalOver g store number errors.Memory = Unit {0}
IsRefusalOver g store number (errors.Device of left) =
    (of ≡ number) × (g.failures store < g.failures left)

-- a buffer set over stores isn't made where memory was refused, or where a device of theirs failed
abbrev pub IsBufferSetRefusal : {S : Type 0} (g : Ghosts S) (stores : List S)
    → BufferSetError S → Type 0
IsBufferSetRefusal g stores errors.Memory = Unit {0}
IsBufferSetRefusal g stores (errors.Device number store) = HasFailedAt g stores number store

-- a relay doesn't begin since its host had no seed or no memory for it
abbrev pub IsHost : {S : Type 0} → BeginError S → Type 0
IsHost (begins.Host why) = Unit {0}
IsHost (begins.Device number store) = ⊥

-- a relay over stores doesn't begin where its host had no seed or no memory for it, or where a
-- device of theirs has failed
abbrev pub IsBeginRefusal : {S : Type 0} (g : Ghosts S) (stores : List S) → BeginError S → Type 0
IsBeginRefusal g stores (begins.Host why) = Unit {0}
IsBeginRefusal g stores (begins.Device number store) = HasFailedAt g stores number store

-- the placed groups are those of these groups, before anything is begun
abbrev pub AreNewPlacedGroups : List places.Group → List PlacedGroup → Type 0
AreNewPlacedGroups groups placed_groups =
    (h : ℕ) (group : places.Group) → slice_get groups h ≡ Some group
    → HasPlacedGroup placed_groups first_course h group

-- the buffers that these numbers stand for
abbrev pub members : List BufferConf → List ℕ → List places.Buffer
members all numbers = filter_map (slice_get (numbered_buffers all)) numbers

-- these are the numbers and the blocks of the buffers that a list stands for
pub record IsNamed (all : List BufferConf) (list own_numbers own_blocks : List ℕ) : Type 0 where
  pub numbers : own_numbers ≡ map (λ (buffer : places.Buffer). buffer.number) (members all list)
  pub blocks : own_blocks ≡ blocks_in (members all list)
