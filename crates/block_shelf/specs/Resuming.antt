-- The groups of a buffer set that is started (docs/PROTOCOL.md, Groups and writers, Clean stop and
-- start).
use Rattle.std.specs.Prelude.{◌≡◌, ℕ, Bool, List, Some, slice_get, unwrap_or}
use Rattle.cyc_block.specs.declared.store.BlockStore.{Ghosts}
use Rattle.cyc_buffer.specs.Agreement.{Agrees}
use Rattle.cyc_buffer.specs.History.{History}
use Rattle.cyc_buffer.specs.Stopped.{used_of}
use Rattle.cyc_buffer.specs.declared.buffer.Buffer.{Buffer}
use Rattle.news_terms.specs.Courses.{Course, position_in}
use Rattle.news_terms.specs.Places as places
use Rattle.news_terms.specs.Places.{Group, Sequential}
use Rattle.relay_conf.specs.Places.{group_over, group_view, numbered_buffers}
use Rattle.relay_conf.specs.Settings.{places_of_groups}
use Rattle.relay_conf.specs.declared.cycbuff.BufferConf.{BufferConf}
use Rattle.relay_conf.specs.declared.cycbuff.GroupConf.{GroupConf}
use Rattle.relay_conf.specs.declared.settings.Buffers.{Buffers}
use Rattle.relay_model.specs.Terms.{Terms}
use Rattle.block_shelf.specs.Each.{AreEach}
use Rattle.block_shelf.specs.Keeping.{KeepsPlacedGroup}
use Rattle.block_shelf.specs.Starting.{PlacedGroupsKeep}
use Rattle.block_shelf.specs.Stopping.{ArePositions}
use Rattle.block_shelf.specs.declared.buffer_set.PlacedGroup.{PlacedGroup}

-- so many blocks are used in the cycle of a buffer
abbrev pub IsUsed : {S : Type 0} {g : Ghosts S} → ℕ → Buffer S g → (used : ℕ) → Type 0
IsUsed b code used = (trusted : Bool) (h : History) → Agrees trusted code h → used ≡ used_of h

-- so many blocks are used in the cycle of each of these buffers
abbrev pub AreUsed : {S : Type 0} {g : Ghosts S} → List (Buffer S g) → (used : List ℕ) → Type 0
AreUsed codes used = AreEach IsUsed codes used

-- The current buffer of a group on this course is there. Where one buffer is filled after the
-- other, as much is used of the group's run as is said to be used in the cycle of this one; of a
-- buffer of which no use is told that is 0.
pub record HasCurrent (used : List ℕ) (group : Group) (begun : Course) : Type 0 where
  pub buffer : places.Buffer
  pub there : slice_get group.buffers (position_in group begun).index ≡ Some buffer
  pub used_there : group.mode ≡ Sequential
      → unwrap_or (slice_get used buffer.number) 0 ≡ (position_in group begun).used

-- the placed group is that of a group at this position of it, over buffers with so many blocks used
abbrev pub ResumesPlacedGroup : Group → (position : ℕ) → (used : List ℕ) → PlacedGroup → Type 0
ResumesPlacedGroup group position used placed_group =
    (begun : Course) → (position_in group begun).index ≡ position → HasCurrent used group begun
    → KeepsPlacedGroup placed_group group begun

-- the placed group is that of the group at this place of the settings, at its position; at its
-- first buffer where it has none
abbrev pub IsResumedAt : List BufferConf → (positions used : List ℕ) → (place : ℕ) → GroupConf
    → PlacedGroup → Type 0
IsResumedAt all positions used place group placed_group =
    ResumesPlacedGroup (group_over (numbered_buffers all) (group_view group))
    (unwrap_or (slice_get positions place) 0) used placed_group

-- The placed groups are those of the settings' groups: where each group's current buffer is there
-- and as much of it is used as is said, and the positions are those of the groups, the placed
-- groups are where that has brought the groups.
abbrev pub ResumesByUse : Buffers → (positions used : List ℕ) → List PlacedGroup → Type 0
ResumesByUse settings positions used placed_groups =
    (w : Terms) (begun : ℕ → Course) → w.groups ≡ places_of_groups settings
    → ((h : ℕ) (group : Group) → slice_get w.groups h ≡ Some group
    → HasCurrent used group (begun h))
    → ArePositions w.groups begun positions → PlacedGroupsKeep placed_groups w begun
