-- Buffers and groups that cycbuff.conf says are sound.
use Rattle.std.proofs.Common.{◌≡◌, ℕ, ◌+◌, ◌<◌, ◌≤◌, List, [], length, map, All, Some, Ok}
use Rattle.std.proofs.Common.{slice_get, get_or, ap, ◌∙◌, sym, subst, arith}
use Rattle.std.specs.List.{enumerate_from}
use Rattle.std.proofs.lemmas.List.{length-map}
use Rattle.std.proofs.lemmas.List.Elements.{All-map}
use Rattle.std.proofs.lemmas.List.FromFn.{length-enumerate_from, get_or-enumerate_from}
use Rattle.news_terms.specs.Places.{Buffer}
use Rattle.news_terms.specs.Places as places
use Rattle.news_terms.specs.Settings.{AreSound, IsBufferAt, IsSoundBuffer}
use Rattle.news_terms.proofs.LineLemmas.{map_some}
use Rattle.news_terms.proofs.ListPlaces.{holds_at, numbered_at, mapped_at, looked_up_at}
use Rattle.news_terms.proofs.ListPlaces.{looked_up_length}
use Rattle.relay_conf.specs.declared.cycbuff.BufferConf.{BufferConf}
use Rattle.relay_conf.specs.declared.settings.Buffers.{Buffers}
use Rattle.relay_conf.specs.Cycbuff.{CycbuffSettings, Group, cycbuff_line, buffers_of, group_names}
use Rattle.relay_conf.specs.Cycbuff.{early_fault, groups_of, late_fault, no_group_fault, cycbuff_of}
use Rattle.relay_conf.specs.Faults.{first_fault}
use Rattle.relay_conf.specs.Places.{numbered_buffer, numbered_buffers, group_over, groups_over}
use Rattle.relay_conf.specs.Places.{group_view}
use Rattle.relay_conf.specs.Settings.{places_of_groups}
use Rattle.relay_conf.proofs.FaultlessLines.{behind_trials}
use Rattle.relay_conf.proofs.ListedOnce.{Is_at, Is_filled, Are_right, right_said}
use Rattle.relay_conf.proofs.SizedBuffers.{Has_size, sized_lines, few_buffers, few_groups}

-- A numbered buffer has its number.
its_number : (buffers : List BufferConf) (i : ℕ) (b : Buffer)
    → slice_get (numbered_buffers buffers) i ≡ Some b → b.number ≡ i
its_number buffers i b at =
    let one = mapped_at numbered_buffer (enumerate_from 0 buffers) i b at in
    let there = map_some (λ (x : BufferConf). (0 + i, x)) (slice_get buffers i) one.0
    (sym (numbered_at 0 buffers i) ∙ one.1) in
    let number : 0 + i ≡ one.0.0 = ap (λ (x : ℕ × BufferConf). x.0) there.2 in
    sym (ap (λ (made : Buffer). made.number) one.2) ∙ omega (arith, number)

-- There are as many numbered buffers.
pub as_many_numbered : (buffers : List BufferConf)
    → length (numbered_buffers buffers) ≡ length buffers
as_many_numbered buffers =
    length-map (enumerate_from 0 buffers) numbered_buffer ∙ length-enumerate_from 0 buffers

-- There are as many places of groups.
pub as_many_groups : (settings : Buffers)
    → length (places_of_groups settings) ≡ length settings.groups.items
as_many_groups settings = length-map _ _ ∙ length-map settings.groups.items group_view

-- So many are sound, where each has a size.
sound_buffers : (buffers : List BufferConf) → length buffers ≤ 256 → All Has_size buffers
    → All IsSoundBuffer (numbered_buffers buffers)
sound_buffers buffers few sized =
    All-map IsSoundBuffer numbered_buffer (enumerate_from 0 buffers)
    (λ k d within.
    let inside : k < length buffers =
    omega (arith, within, length-enumerate_from 0 buffers) in
    let size = sized k d.1 inside in
    rw (get_or-enumerate_from 0 buffers k d inside)
    (record { number = omega (arith, inside, few); some = size.0; most = size.1 }))

-- The numbers of a filled list are those of buffers.
known_of : (buffers : List BufferConf) (group : Group) → Is_filled (length buffers) group
    → All (λ n. n < length (numbered_buffers buffers)) group.buffers
known_of buffers group filled =
    subst (λ count. All (λ n. n < count) group.buffers) (sym (as_many_numbered buffers))
    filled.known

-- The buffer at a place of a group is the one whose number stands there.
placed_at : (buffers : List BufferConf) (groups : List Group)
    → All (Is_filled (length buffers)) groups → (g i : ℕ) (b : Buffer)
    → IsBufferAt (groups_over buffers groups) g i b
    → (n : ℕ) × Is_at groups g i n × (slice_get (numbered_buffers buffers) n ≡ Some b)
placed_at buffers groups filled g i b at =
    let all = numbered_buffers buffers in
    let one = mapped_at (group_over all) groups g at.group at.is_group in
    let found = looked_up_at all one.0.buffers (known_of buffers one.0
    (holds_at (Is_filled (length buffers)) groups filled g one.0 one.1)) i b
    (ap (λ (group : places.Group). slice_get group.buffers i) one.2 ∙ at.is_buffer) in
    (found.0, record { group = one.0; is_group = one.1; is_number = found.1 }, found.2)

-- Few buffers of such sizes and right groups are sound.
sound_places : (buffers : List BufferConf) (groups : List Group) → length buffers ≤ 256
    → All Has_size buffers → Are_right buffers groups
    → AreSound (numbered_buffers buffers) (groups_over buffers groups)
sound_places buffers groups few sized right =
    let all = numbered_buffers buffers in
    record {
      buffers = sound_buffers buffers few sized;
      apart = λ i j a b at other same.
          sym (its_number buffers i a at) ∙ same ∙ its_number buffers j b other;
      filled = All-map (λ (group : places.Group). 1 ≤ length group.buffers) (group_over all) groups
          (λ k d within.
          let one = right.filled k d within in
          omega (
            arith,
            one.some,
            looked_up_length all (get_or groups k d).buffers
                (known_of buffers (get_or groups k d) one),
          ));
      named = λ g i b at.
          let found = placed_at buffers groups right.filled g i b at in (found.0, found.2);
      once = λ g h i j a b at other same.
          let one = placed_at buffers groups right.filled g i a at in
          let two = placed_at buffers groups right.filled h j b other in
          let number : two.0 ≡ one.0 =
          sym (its_number buffers two.0 b two.2) ∙ sym same
          ∙ its_number buffers one.0 a one.2 in
          right.once g h i j one.0 one.1 (subst (Is_at groups h j) number two.1);
    }

-- what is so of settings of cycbuff.conf
pub record IsSoundCycbuff (settings : CycbuffSettings) : Type 0 where
  pub sound : AreSound (numbered_buffers settings.buffers)
      (groups_over settings.buffers settings.groups)
  pub few_buffers : length settings.buffers ≤ 256
  pub few_groups : length settings.groups ≤ 256

-- What cycbuff.conf says is sound.
pub cycbuff_is_sound : (lines : List (List ℕ)) (settings : CycbuffSettings)
    → cycbuff_of lines ≡ Ok settings → IsSoundCycbuff settings
cycbuff_is_sound lines settings e =
    let said = map cycbuff_line lines in
    let buffers = buffers_of said in
    let none = behind_trials (first_fault early_fault [] said) (no_group_fault (group_names said))
    (first_fault (late_fault buffers) [] said)
    (record { buffers = buffers; groups = groups_of buffers said }) settings e in
    let few = few_buffers said none.0 in
    subst IsSoundCycbuff none.3
    (record {
      sound = sound_places buffers (groups_of buffers said) few (sized_lines lines)
          (right_said buffers said none.2);
      few_buffers = few;
      few_groups = few_groups buffers said none.0;
    })
