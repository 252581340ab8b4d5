-- Whose turn it is in each group of a relay that is found again (docs/PROTOCOL.md, Crashes).
use Rattle.std.specs.Prelude.{◌≡◌, ℕ, ◌-◌, ◌<◌, ◌≤◌, nat_lt, List, length, map, Option, None, Some}
use Rattle.std.specs.Prelude.{slice_get, option_map, unwrap_or, if◌then◌else◌}
use Rattle.std.specs.Borrow.{Bor}
use Rattle.cyc_block.specs.declared.store.BlockStore.{Ghosts}
use Rattle.cyc_token.specs.declared.Token as code
use Rattle.id_history.specs.declared.kept.History.{History}
use Rattle.news_terms.specs.Places.{Buffer, Group, Mode, Interleave, Sequential}
use Rattle.relay_conf.specs.Places.{group_over, group_view, mode_view, numbered_buffers}
use Rattle.relay_conf.specs.declared.cycbuff.BufferConf.{BufferConf}
use Rattle.relay_conf.specs.declared.cycbuff.GroupConf.{GroupConf}
use Rattle.buffer_repair.specs.Finding.{tokens_at}
use Rattle.buffer_repair.specs.declared.found_set.FoundBufferSet.{FoundBufferSet}

-- the cycle of a token's article
abbrev pub cycle_of : code.Token → ℕ
cycle_of token = token.cycle

-- the cycle of the newest article that is found in the buffer of a number, if one is
abbrev pub newest_cycle : {S : Type 0} {g : Ghosts S} → FoundBufferSet S g → (number : ℕ) → Option ℕ
newest_cycle found_set number =
    let tokens = tokens_at found_set number in
    option_map cycle_of (slice_get tokens (length tokens - 1))

-- of each of these buffers the cycle of the newest article that is found in it
abbrev pub cycles_in : {S : Type 0} {g : Ghosts S} → FoundBufferSet S g → List Buffer
    → List (Option ℕ)
cycles_in found_set buffers =
    map (λ (buffer : Buffer). newest_cycle found_set buffer.number) buffers

-- the place is that of the last of the greatest of these numbers, or the first where there is none
pub record IsLatest (cycles : List (Option ℕ)) (place : ℕ) : Type 0 where
  pub none : ((j c : ℕ) → slice_get cycles j ≡ Some (Some c) → ⊥) → place ≡ 0
  pub greatest : (c : ℕ) → slice_get cycles place ≡ Some (Some c) → (j d : ℕ)
      → slice_get cycles j ≡ Some (Some d) → d ≤ c
  pub last : (c : ℕ) → slice_get cycles place ≡ Some (Some c) → (j d : ℕ)
      → slice_get cycles j ≡ Some (Some d) → place < j → d < c
  pub some : (j d : ℕ) → slice_get cycles j ≡ Some (Some d)
      → (c : ℕ) × (slice_get cycles place ≡ Some (Some c))

-- the position that a history has of the group at this place: its first one where it has none
abbrev pub kept_position : Option (Bor History) → (place : ℕ) → ℕ
kept_position None place = 0
kept_position (Some old) place = unwrap_or (slice_get old.now.positions.items place) 0

-- the position of a group where it is found again: where it goes from buffer to buffer the one that
-- is kept, if it has so many, and where it fills one after the other the buffer of its latest run
abbrev pub IsPositionBy : {S : Type 0} {g : Ghosts S} → Mode → List Buffer → FoundBufferSet S g
    → (kept position : ℕ) → Type 0
IsPositionBy Interleave buffers found_set kept position =
    position ≡ (if nat_lt kept (length buffers) then kept else 0)
IsPositionBy Sequential buffers found_set kept position =
    IsLatest (cycles_in found_set buffers) position

-- the position of the group at this place of a list is that one
pub record HasPosition {S : Type 0} {g : Ghosts S} (old : Option (Bor History))
    (found_set : FoundBufferSet S g) (positions : List ℕ) (h : ℕ) (group : Group)
    : Type 0 where
  pub position : ℕ
  pub there : slice_get positions h ≡ Some position
  pub is : IsPositionBy group.mode group.buffers found_set (kept_position old h) position
  pub within : position < length group.buffers

-- these are the positions of the groups, each of one of its buffers
pub record ArePositionsAgain {S : Type 0} {g : Ghosts S} (groups : List Group)
    (old : Option (Bor History)) (found_set : FoundBufferSet S g) (positions : List ℕ)
    : Type 0 where
  pub count : length positions ≡ length groups
  pub each : (h : ℕ) (group : Group) → slice_get groups h ≡ Some group
      → HasPosition old found_set positions h group

-- STEP BY STEP

-- the position of a group in whose buffers the newest articles are of these cycles
abbrev pub IsPositionIn : Mode → (cycles : List (Option ℕ)) → (kept position : ℕ) → Type 0
IsPositionIn Interleave cycles kept position =
    position ≡ (if nat_lt kept (length cycles) then kept else 0)
IsPositionIn Sequential cycles kept position = IsLatest cycles position

-- the position of the group at this place of the settings, where it is found again
pub record IsPositionOf {S : Type 0} {g : Ghosts S} (all : List BufferConf)
    (old : Option (Bor History)) (found_set : FoundBufferSet S g) (h : ℕ) (group : GroupConf)
    (position : ℕ)
    : Type 0 where
  pub is : IsPositionBy (mode_view group.mode)
      (group_over (numbered_buffers all) (group_view group)).buffers found_set
      (kept_position old h) position
  pub within : position < length (group_over (numbered_buffers all) (group_view group)).buffers
