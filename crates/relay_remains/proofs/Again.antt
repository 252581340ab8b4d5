-- The positions of all groups, one group after the other.
use Rattle.std.proofs.Common.{◌≡◌, ◌∙◌, ℕ, ◌+◌, ◌^◌, ◌<◌, ◌≤◌, arith, refl, sym, ap, subst, List}
use Rattle.std.proofs.Common.{◌∷◌, ◌++◌, length, map, take, get_or, Option, None, Some, slice_get}
use Rattle.std.proofs.Common.{[], append-nil}
use Rattle.std.specs.Borrow.{Bor}
use Rattle.std.proofs.lemmas.List.{length-map, map-append}
use Rattle.std.proofs.lemmas.Option.{slice_get_past, slice_get_read}
use Rattle.cyc_block.specs.declared.store.BlockStore.{Ghosts}
use Rattle.id_history.specs.declared.kept.History.{History}
use Rattle.news_terms.specs.Places.{Buffer, Group, Mode, Interleave, Sequential}
use Rattle.news_terms.proofs.ListPlaces.{mapped_at, there_within}
use Rattle.relay_conf.specs.Places.{group_over, group_view}
use Rattle.relay_conf.specs.Places.{numbered_buffers}
use Rattle.relay_conf.specs.Settings.{places_of_groups}
use Rattle.relay_conf.specs.declared.cycbuff.BufferConf.{BufferConf}
use Rattle.relay_conf.specs.declared.cycbuff.GroupConf.{GroupConf}
use Rattle.relay_conf.specs.declared.settings.Buffers.{Buffers}
use Rattle.relay_conf.proofs.SoundCycbuff.{as_many_groups}
use Rattle.block_shelf.proofs.NewBufferSet.{group_at, group_filled, members_more}
use Rattle.block_shelf.proofs.Placed.{few_members}
use Rattle.block_shelf.specs.Each.{AreEach}
use Rattle.block_shelf.specs.Filling.{members}
use Rattle.buffer_repair.specs.declared.found_set.FoundBufferSet.{FoundBufferSet}
use Rattle.relay_remains.specs.Positions.{ArePositionsAgain, HasPosition, IsPositionBy}
use Rattle.relay_remains.specs.Positions.{IsPositionIn, IsPositionOf, cycles_in}
use Rattle.relay_remains.specs.Positions.{newest_cycle}

module _ {S : Type 0} {g : Ghosts S} (found_set : FoundBufferSet S g) where
  -- a number that stands for no buffer has no cycle
  pub no_cycle : (all : List BufferConf) (numbers : List ℕ) (k : ℕ) (cycles : List (Option ℕ))
      → k < length numbers → length all ≤ get_or numbers k 0
      → cycles ≡ cycles_in found_set (members all (take k numbers))
      → cycles ≡ cycles_in found_set (members all (take (k + 1) numbers))
  no_cycle all numbers k cycles within past are =
      are
      ∙ ap (cycles_in found_set)
      (sym (members_more all numbers k (get_or numbers k 0) None within refl
      (slice_get_past all (get_or numbers k 0) past)
      ∙ append-nil (members all (take k numbers))))

  -- each other has that of its buffer
  pub next_cycle : (all : List BufferConf) (numbers : List ℕ) (k : ℕ) (cycles : List (Option ℕ))
      → k < length numbers → get_or numbers k 0 < length all
      → cycles ≡ cycles_in found_set (members all (take k numbers))
      → cycles ++ newest_cycle found_set (get_or numbers k 0) ∷ []
      ≡ cycles_in found_set (members all (take (k + 1) numbers))
  next_cycle all numbers k cycles within there are =
      let conf = there_within all (get_or numbers k 0) there in
      rw (
        are,
        members_more all numbers k (get_or numbers k 0) (Some conf.0) within refl conf.1,
        map-append,
      )

  -- a position by the cycles of the buffers is one by the buffers
  pub position_by : (mode : Mode) (buffers : List Buffer) (kept position : ℕ)
      → IsPositionIn mode (cycles_in found_set buffers) kept position
      → IsPositionBy mode buffers found_set kept position
  position_by Interleave buffers kept position is = simp length-map at is
  position_by Sequential buffers kept position is = is

-- a group that is read at a place of the settings' groups stands there
pub group_there : (settings : Buffers) (items : List GroupConf) (k : ℕ) (group : GroupConf)
    → items ≡ settings.groups.items → k < length items → group ≡ get_or items k group
    → slice_get settings.groups.items k ≡ Some group
group_there settings items k group same within is =
    rw same at (slice_get_read items (length items) k group refl within is)

-- a group of the settings has 1 to 256 buffers, and so many cycles
pub counted_cycles : {S : Type 0} {g : Ghosts S} (settings : Buffers)
    (found_set : FoundBufferSet S g) (k : ℕ) (group : GroupConf) (cycles : List (Option ℕ))
    → slice_get settings.groups.items k ≡ Some group
    → cycles ≡ cycles_in found_set
    (group_over (numbered_buffers settings.buffers.items) (group_view group)).buffers
    → (1 ≤ length cycles) × (length cycles ≤ 2 ^ 8)
counted_cycles settings found_set k group cycles there are =
    let over = group_over (numbered_buffers settings.buffers.items) (group_view group) in
    let some = group_filled settings k group there in
    let few = few_members (numbered_buffers settings.buffers.items) (places_of_groups settings)
    settings.sound k over (group_at settings k group there) in
    let count : length cycles ≡ length over.buffers = simp length-map at (ap length are) in
    (omega (arith, count, some), omega (arith, count, few))

module _ {S : Type 0} {g : Ghosts S} (settings : Buffers) (old : Option (Bor History))
    (found_set : FoundBufferSet S g) (positions : List ℕ)
    (are : AreEach (IsPositionOf settings.buffers.items old found_set) settings.groups.items
    positions) where
  -- each group of the settings has its position
  position_at : (h : ℕ) (group : Group) → slice_get (places_of_groups settings) h ≡ Some group
      → HasPosition old found_set positions h group
  position_at h group at =
      let over = group_over (numbered_buffers settings.buffers.items) in
      let a = mapped_at over (map group_view settings.groups.items) h group at in
      let b = mapped_at group_view settings.groups.items h a.0 a.1 in
      let one = are.each h b.0 b.1 in
      subst (HasPosition old found_set positions h) (ap over b.2 ∙ a.2) (record {
        position = one.item;
        there = one.there;
        is = one.belongs.is;
        within = one.belongs.within;
      })

  -- so they are the positions of all groups
  pub positions_are : ArePositionsAgain (places_of_groups settings) old found_set positions
  positions_are = record {
    count = are.count ∙ sym (as_many_groups settings);
    each = position_at;
  }
