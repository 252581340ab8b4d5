-- The room of the buffers of some numbers, buffer by buffer.
use Rattle.std.proofs.Common.{◌≡◌, ◌∙◌, ℕ, Bool, false, List, ◌∷◌, map, ap, refl, nat_le}
use Rattle.std.proofs.Common.{slice_get, Option, None, Some, zero-add, ◌≤◌}
use Rattle.std.proofs.Common.{◌+◌, ◌<◌, drop, get_or, length}
use Rattle.std.proofs.lemmas.Bool.{le-leb, lt-leb}
use Rattle.std.proofs.lemmas.Option.{slice_get-map}
use Rattle.std.specs.List.{cons_option, enumerate_from, list_all}
use Rattle.std.specs.Option.{option_map}
use Rattle.std.specs.Prelude.{filter_map, ◌&&◌}
use Rattle.news_terms.specs.Places.{Buffer}
use Rattle.relay_conf.proofs.FirstFaults.{drop_one}
use Rattle.news_terms.proofs.ListPlaces.{numbered_at}
use Rattle.relay_conf.specs.Places.{group_over, group_view, numbered_buffer, numbered_buffers}
use Rattle.relay_conf.specs.Settings.{places_of_groups}
use Rattle.relay_conf.specs.declared.cycbuff.BufferConf.{BufferConf}
use Rattle.relay_conf.specs.declared.cycbuff.GroupConf.{GroupConf}
use Rattle.relay_conf.specs.declared.settings.Buffers.{Buffers}
use Rattle.relay_model.specs.Judging.{fits}

-- a buffer has so many blocks
abbrev pub has_blocks : ℕ → Buffer → Bool
has_blocks blocks buffer = nat_le blocks buffer.blocks

-- those of the buffers that have these numbers have so many blocks
abbrev pub all_have_room : List BufferConf → (blocks : ℕ) → (numbers : List ℕ) → Bool
all_have_room all blocks numbers =
    list_all (has_blocks blocks) (filter_map (slice_get (numbered_buffers all)) numbers)

-- a buffer with a number
abbrev pub with_number : ℕ → BufferConf → ℕ × BufferConf
with_number n buffer = (n, buffer)

-- the buffer of a number, with it
numbered_one : (all : List BufferConf) (n : ℕ)
    → slice_get (numbered_buffers all) n
    ≡ option_map numbered_buffer (option_map (with_number n) (slice_get all n))
numbered_one all n =
    slice_get-map numbered_buffer (enumerate_from 0 all) n
    ∙ ap (option_map numbered_buffer) (numbered_at 0 all n)
    ∙ ap (λ k. option_map numbered_buffer (option_map (with_number k) (slice_get all n)))
    (zero-add n)

-- a buffer that is there has so many blocks, and so have those that are left
abbrev pub room_then : Option BufferConf → (blocks : ℕ) → Bool → Bool
room_then None blocks rest = rest
room_then (Some one) blocks rest = nat_le blocks one.blocks && rest

-- the buffer of a number, where there is one, and those that are left
room_one : (all : List BufferConf) (blocks n : ℕ) (rest : List ℕ) (o : Option BufferConf)
    → slice_get all n ≡ o
    → all_have_room all blocks (n ∷ rest)
    ≡ room_then o blocks (all_have_room all blocks rest)
room_one all blocks n rest o is =
    let left = filter_map (slice_get (numbered_buffers all)) rest in
    ap (λ (one : Option Buffer). list_all (has_blocks blocks) (cons_option one left))
    (numbered_one all n
    ∙ ap (λ one. option_map numbered_buffer (option_map (with_number n) one)) is)
    ∙ by_one o
  where
    by_one : (o : Option BufferConf)
        → list_all (has_blocks blocks)
        (cons_option (option_map numbered_buffer (option_map (with_number n) o))
        (filter_map (slice_get (numbered_buffers all)) rest))
        ≡ room_then o blocks (all_have_room all blocks rest)
    by_one None = refl
    by_one (Some one) = refl

-- one number more
pub room_next : (all : List BufferConf) (blocks : ℕ) (numbers : List ℕ) (i : ℕ)
    (o : Option BufferConf) → i < length numbers → slice_get all (get_or numbers i 0) ≡ o
    → all_have_room all blocks (drop i numbers)
    ≡ room_then o blocks (all_have_room all blocks (drop (i + 1) numbers))
room_next all blocks numbers i o within is =
    ap (all_have_room all blocks) (drop_one numbers i 0 within)
    ∙ room_one all blocks (get_or numbers i 0) (drop (i + 1) numbers) o is

-- the group of a number, as places have it
group_at : (settings : Buffers) (g : ℕ) (o : Option GroupConf)
    → slice_get settings.groups.items g ≡ o
    → slice_get (places_of_groups settings) g
    ≡ option_map (group_over (numbered_buffers settings.buffers.items)) (option_map group_view o)
group_at settings g o is =
    let over = group_over (numbered_buffers settings.buffers.items) in
    slice_get-map over (map group_view settings.groups.items) g
    ∙ ap (option_map over) (slice_get-map group_view settings.groups.items g
    ∙ ap (option_map group_view) is)

-- a group that is there has the room that its buffers have
pub room_in : (settings : Buffers) (g blocks : ℕ) (group : GroupConf)
    → slice_get settings.groups.items g ≡ Some group
    → fits (slice_get (places_of_groups settings) g) blocks
    ≡ all_have_room settings.buffers.items blocks group.buffers.items
room_in settings g blocks group is =
    ap (λ o. fits o blocks) (group_at settings g (Some group) is)

-- without a group there is no room
pub no_room : (settings : Buffers) (g blocks : ℕ) → slice_get settings.groups.items g ≡ None
    → fits (slice_get (places_of_groups settings) g) blocks ≡ false
no_room settings g blocks is = ap (λ o. fits o blocks) (group_at settings g None is)

-- a number whose buffer has room decides nothing
pub room_passed : (all : List BufferConf) (blocks : ℕ) (numbers : List ℕ) (i : ℕ)
    (one : BufferConf) → i < length numbers → slice_get all (get_or numbers i 0) ≡ Some one
    → blocks ≤ one.blocks
    → all_have_room all blocks (drop i numbers) ≡ all_have_room all blocks (drop (i + 1) numbers)
room_passed all blocks numbers i one within is room =
    room_next all blocks numbers i (Some one) within is
    ∙ ap (λ b. b && all_have_room all blocks (drop (i + 1) numbers))
    (le-leb blocks one.blocks room)

-- one whose buffer has none decides
pub room_lacks : (all : List BufferConf) (blocks : ℕ) (numbers : List ℕ) (i : ℕ)
    (one : BufferConf) → i < length numbers → slice_get all (get_or numbers i 0) ≡ Some one
    → one.blocks < blocks → all_have_room all blocks (drop i numbers) ≡ false
room_lacks all blocks numbers i one within is room =
    room_next all blocks numbers i (Some one) within is
    ∙ ap (λ b. b && all_have_room all blocks (drop (i + 1) numbers))
    (lt-leb blocks one.blocks room)
