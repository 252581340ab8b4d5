-- A group of which a buffer is told to have no room has none for the relay.
use Rattle.std.proofs.Common.{◌≡◌, ◌∙◌, ℕ, Bool, List, [], ◌∷◌, map, ap, refl, sym, arith, nat_le}
use Rattle.std.proofs.Common.{◌*◌, false, slice_get, true, Option, None, Some, zero-add, inl, inr}
use Rattle.std.proofs.lemmas.Bool.{cases_lt, le-leb, lt-leb, le-ltb, lt-ltb}
use Rattle.std.proofs.lemmas.Option.{slice_get-map}
use Rattle.std.specs.List.{cons_option, enumerate_from, list_all}
use Rattle.std.specs.Option.{is_none, option_map}
use Rattle.std.specs.Prelude.{filter_map, if◌then◌else◌, nat_lt, not, ◌&&◌}
use Rattle.news_terms.proofs.ListPlaces.{numbered_at}
use Rattle.news_terms.specs.Places.{Buffer, size_of}
use Rattle.relay_conf.specs.Places.{group_over, group_view, numbered_buffer, numbered_buffers}
use Rattle.relay_conf.specs.Settings.{places_of_groups}
use Rattle.relay_conf.specs.declared.cycbuff.BufferConf.{BufferConf}
use Rattle.relay_conf.specs.declared.cycbuff.GroupConf.{GroupConf}
use Rattle.relay_conf.specs.declared.settings.Buffers.{Buffers}
use Rattle.relay_model.specs.Judging.{fits}
use Rattle.relay_explain.specs.Buffers.{room_of}
use Rattle.relay_explain.specs.Choice.{first_small}
use Rattle.relay_explain.proofs.Smalls.{small_one, small_or}

-- Blocks have room for so many octets just where the octets that they hold suffice.
room_same : (size blocks : ℕ) → nat_le (size_of size) blocks ≡ not (nat_lt (room_of blocks) size)
unfolding room_of
room_same size blocks = elim (cases_lt (blocks * 480) size) [
  | inl small ↦ lt-leb _ _ (omega arith) ∙ sym (ap not (lt-ltb _ _ small))
  | inr room ↦ le-leb _ _ (omega arith) ∙ sym (ap not (le-ltb _ _ room))
]

-- a buffer has room for so many octets, by its blocks
abbrev has_room : (size : ℕ) → Buffer → Bool
has_room size buffer = nat_le (size_of size) buffer.blocks

-- a buffer with a number
abbrev with_number : ℕ → BufferConf → ℕ × BufferConf
with_number n buffer = (n, buffer)

-- the buffers of these numbers have room
abbrev have_room : List BufferConf → (size : ℕ) → (numbers : List ℕ) → Bool
have_room all size numbers =
    list_all (has_room size) (filter_map (slice_get (numbered_buffers all)) numbers)

-- the buffer of a number, with it
numbered_one : (all : List BufferConf) (n : ℕ)
    → slice_get (numbered_buffers all) n
    ≡ option_map numbered_buffer (option_map (with_number n) (slice_get all n))
numbered_one all n =
    slice_get-map numbered_buffer (enumerate_from 0 all) n
    ∙ ap (option_map numbered_buffer) (numbered_at 0 all n)
    ∙ ap (λ k. option_map numbered_buffer (option_map (with_number k) (slice_get all n)))
    (zero-add n)

-- what the first of some buffers decides is the same by blocks and by octets
one_same : (size n : ℕ) (o : Option BufferConf) (left : List Buffer) (rest : Option BufferConf)
    → list_all (has_room size) left ≡ is_none rest
    → list_all (has_room size)
    (cons_option (option_map numbered_buffer (option_map (with_number n) o)) left)
    ≡ is_none (small_or o size rest)
one_same size n None left rest same = same
one_same size n (Some one) left rest same =
    ap (λ b. b && list_all (has_room size) left) (room_same size one.blocks)
    ∙ by_test (nat_lt (room_of one.blocks) size)
  where
    by_test : (b : Bool) → (not b && list_all (has_room size) left)
        ≡ is_none (if b then Some one else rest)
    by_test true = refl
    by_test false = same

-- Of these numbers each buffer has room for the relay where none is told to have none.
have_room_same : (all : List BufferConf) (size : ℕ) (numbers : List ℕ)
    → have_room all size numbers ≡ is_none (first_small all numbers size)
unfolding first_small
have_room_same all size [] = refl
have_room_same all size (n ∷ rest) =
    let left = filter_map (slice_get (numbered_buffers all)) rest in
    ap (λ (one : Option Buffer). list_all (has_room size) (cons_option one left))
    (numbered_one all n)
    ∙ one_same size n (slice_get all n) left (first_small all rest size)
    (have_room_same all size rest)
    ∙ ap is_none (sym (small_one all size n rest (slice_get all n) refl))

-- the group of a number, as places have it
group_at : (settings : Buffers) (g : ℕ) (group : GroupConf)
    → slice_get settings.groups.items g ≡ Some group
    → slice_get (places_of_groups settings) g
    ≡ Some (group_over (numbered_buffers settings.buffers.items) (group_view group))
group_at settings g group is =
    let over = group_over (numbered_buffers settings.buffers.items) in
    slice_get-map over (map group_view settings.groups.items) g
    ∙ ap (option_map over) (slice_get-map group_view settings.groups.items g
    ∙ ap (option_map group_view) is)

-- The room of a group is the relay's.
pub room_is_the_relays : (settings : Buffers) (g size : ℕ) (group : GroupConf)
    → slice_get settings.groups.items g ≡ Some group
    → fits (slice_get (places_of_groups settings) g) (size_of size)
    ≡ is_none (first_small settings.buffers.items group.buffers.items size)
room_is_the_relays settings g size group is =
    ap (λ o. fits o (size_of size)) (group_at settings g group is)
    ∙ have_room_same settings.buffers.items size group.buffers.items
