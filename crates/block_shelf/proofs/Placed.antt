-- The positions of a buffer set's groups, which have no more buffers than a token has numbers for.
use Rattle.std.proofs.Common.{◌≡◌, ◌∙◌, ℕ, ◌^◌, ◌<◌, ◌≤◌, true, false, arith, sym, ap, List, length}
use Rattle.std.proofs.Common.{map, nat_eq, get_or, Some, slice_get}
use Rattle.std.specs.List.{list_any}
use Rattle.std.proofs.lemmas.Bool.{eqb-true, ne_eqb}
use Rattle.std.proofs.lemmas.List.{length-map}
use Rattle.std.proofs.lemmas.Map.Keys.{IsDistinct-from_apart}
use Rattle.std.proofs.lemmas.Map.Steps.{length-le_from_distinct_below}
use Rattle.std.proofs.lemmas.Map.Views.{Contains-from_any}
use Rattle.std.proofs.lemmas.Option.{slice_get-get_or}
use Rattle.news_terms.specs.Places as places
use Rattle.news_terms.specs.Places.{Group}
use Rattle.news_terms.specs.Settings.{AreSound, IsSoundBuffer}
use Rattle.news_terms.proofs.ListPlaces.{holds_at, mapped_at}
use Rattle.cyc_block.specs.declared.store.BlockStore.{Ghosts}
use Rattle.block_shelf.specs.Each.{AreEach}
use Rattle.block_shelf.specs.Stopping.{TellsPosition, TellsPositions}
use Rattle.block_shelf.specs.declared.buffer_set.BufferSet.{BufferSet}

-- a group has at most 256 buffers
pub few_members : (all : List places.Buffer) (groups : List Group) → AreSound all groups → (h : ℕ)
    (group : Group) → slice_get groups h ≡ Some group → length group.buffers ≤ 2 ^ 8
few_members all groups sound h group at =
    omega (
      arith,
      length-map group.buffers number_of,
      length-le_from_distinct_below numbers (2 ^ 8)
          (IsDistinct-from_apart nat_eq numbers apart) below,
    )
  where
    number_of : places.Buffer → ℕ
    number_of buffer = buffer.number

    numbers : List ℕ
    numbers = map number_of group.buffers

    once : (i j n : ℕ) → slice_get numbers i ≡ Some n → slice_get numbers j ≡ Some n → i ≡ j
    once i j n one other =
        let a = mapped_at number_of group.buffers i n one in
        let b = mapped_at number_of group.buffers j n other in
        (sound.once h h i j a.0 b.0
        (record { group = group; is_group = at; is_buffer = a.1 })
        (record { group = group; is_group = at; is_buffer = b.1 }) (a.2 ∙ sym b.2)).1

    apart : (i j d : ℕ) → i < j → j < length numbers
        → nat_eq (get_or numbers i d) (get_or numbers j d) ≡ false
    apart i j d before within =
        ne_eqb (get_or numbers i d) (get_or numbers j d) (λ same. omega (
          arith,
          before,
          once i j (get_or numbers j d)
              (slice_get-get_or numbers i d (omega (arith, before, within)) ∙ ap Some same)
              (slice_get-get_or numbers j d within),
        ))

    below : (q : ℕ) → list_any (nat_eq q) numbers ≡ true → q < 2 ^ 8
    below q is =
        let found = Contains-from_any eqb-true q numbers is in
        let a = mapped_at number_of group.buffers found.0 q
        (slice_get-get_or numbers found.0 q found.1 ∙ ap Some found.2) in
        let k = sound.named h found.0 a.0
        (record { group = group; is_group = at; is_buffer = a.1 }) in
        omega (arith, (holds_at IsSoundBuffer all sound.buffers k.0 a.0 k.1).number, a.2)

-- the positions are those of the groups
pub told_positions : {S : Type 0} {g : Ghosts S} (buffer_set : BufferSet S g) (positions : List ℕ)
    → AreEach TellsPosition buffer_set.placed_groups.items positions
    → TellsPositions buffer_set positions
told_positions buffer_set positions are trusted w begun kept openings failures keeps = record {
  count = are.count ∙ keeps.placed_group_count;
  each = λ h group at.
      let had = keeps.placed_groups h group at in
      let told = are.each h had.code had.there in
      rw (← told.belongs group (begun h) had.keeps
      (few_members w.buffers w.groups keeps.sound h group at)) told.there;
}
