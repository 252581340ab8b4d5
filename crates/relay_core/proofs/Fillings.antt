-- How far buffers are filled, one after the other, and what a configuration asks of a history.
use Rattle.std.proofs.Common.{◌≡◌, ◌∙◌, ◌<◌, ◌≤◌, ◌+◌, ◌++◌, ℕ, List, [], ◌∷◌, None, Some, refl}
use Rattle.std.proofs.Common.{sym, ap, arith, length, map, take, get_or, slice_get, append-nil, ◌-◌}
use Rattle.std.proofs.Common.{Bool, true, false, leb, ltb, not}
use Rattle.std.proofs.lemmas.Bool.{le-leb, ltb-false, ltb-true}
use Rattle.std.proofs.lemmas.Bool.Decides.{nat_tests}
use Rattle.std.proofs.lemmas.List.{length-append, map_push, take_more}
use Rattle.std.proofs.lemmas.List.Sums.{sum_by-cons}
use Rattle.std.proofs.lemmas.Option.{get_or_from_slice_get}
use Rattle.std.proofs.lemmas.Option.{slice_get-map, slice_get_past, slice_get_within}
use Rattle.std.specs.List.{list_any}
use Rattle.std.specs.Prelude.{option_map}
use Rattle.block_shelf.proofs.NewBufferSet.{members_more}
use Rattle.block_shelf.specs.Filling.{members}
use Rattle.news_terms.specs.Places.{Group, on_line}
use Rattle.news_terms.specs.Token.{Token}
use Rattle.news_terms.proofs.ListPlaces.{there_within}
use Rattle.relay_conf.specs.Places.{numbered_buffer}
use Rattle.relay_conf.specs.declared.cycbuff.BufferConf.{BufferConf}
use Rattle.relay_facts.proofs.BufferCount.{buffers_in, few_buffers}
use Rattle.relay_facts.proofs.Sums.{term_within}
use Rattle.relay_facts.specs.Sound.{IsSound}
use Rattle.relay_model.specs.Terms.{Terms}
use Rattle.cyc_buffer.specs.Filled.{Filled, filled_view}
use Rattle.relay_core.specs.Ahead.{all_stored, is_past, is_unbegun}
use Rattle.relay_core.specs.Desks.{members_of}
use Rattle.cyc_buffer.specs.declared.filled.Filled as code

-- a list with fewer items than it is to have has room for one more
pub has_room : {count at most room : ℕ} → count ≤ at → at < most → most ≤ room → count < room
has_room few more fits = omega arith

-- so has one with as many items as were joined
pub has_room_at : {count at most room : ℕ} → count ≡ at → at < most → most ≤ room → count < room
has_room_at same more fits = omega arith

-- room stays where a list's memory does
pub room_stays : {most room after : ℕ} → most ≤ room → after ≡ room → most ≤ after
room_stays fits same = omega arith

-- where none is left, none of all passes
pub none_passes : {A B : Type 0} (test : B → Bool) (view : A → B) (left : List A) (any : Bool)
    → length left ≡ 0 → list_any test (map view left) ≡ any → false ≡ any
none_passes test view [] any none e = e
none_passes test view (one ∷ left) any none e = absurd (omega (arith, none))

-- what a buffer has stored is taken off, and the buffer
pub above_more : (above less gained : ℕ) (one : code.Filled) (others left : List code.Filled)
    → left ≡ one ∷ others → less ≡ above - one.stored
    → above - all_stored (map filled_view left) ≡ gained
    → less - all_stored (map filled_view others) ≡ gained
above_more above less gained one others left is taken e =
    let sum : all_stored (map filled_view left)
    ≡ one.stored + all_stored (map filled_view others) =
    ap (λ (all : List code.Filled). all_stored (map filled_view all)) is
    ∙ sum_by-cons (λ (each : Filled). each.stored) (filled_view one) (map filled_view others) in
    omega (arith, sum, taken, e)

-- where no buffer is left, what is above nothing is above all
pub above_all : (above gained all : ℕ) (left : List code.Filled) → length left ≡ 0
    → above - all_stored (map filled_view left) ≡ gained - all → ltb 0 above ≡ ltb all gained
above_all above gained all [] none e = grind (arith, nat_tests)
above_all above gained all (one ∷ left) none e = absurd (omega (arith, none))

-- a group has few buffers
pub few_members : (w : Terms) → IsSound w → (h : ℕ) (group : Group)
    → slice_get w.groups h ≡ Some group → length group.buffers ≤ 256
few_members w sound h group there =
    omega (
      arith,
      term_within (λ g. buffers_in (slice_get w.groups g)) h (length w.groups)
          (slice_get_within w.groups h group there),
      ap buffers_in there,
      few_buffers w sound,
    )

-- one number more stands for a buffer
pub member_more : (all : List BufferConf) (list : List ℕ) (k count : ℕ) → k < length list
    → get_or list k 0 < length all → count ≡ length (members all (take k list))
    → count + 1 ≡ length (members all (take (k + 1) list))
member_more all list k count within there so_far =
    let one = there_within all (get_or list k 0) there in
    ap (λ n. n + 1) so_far
    ∙ sym (ap length (members_more all list k (get_or list k 0) (Some one.0) within refl one.1)
    ∙ length-append (members all (take k list)) (numbered_buffer (get_or list k 0, one.0) ∷ []))

-- or for none
pub member_none : (all : List BufferConf) (list : List ℕ) (k count : ℕ) → k < length list
    → length all ≤ get_or list k 0 → count ≡ length (members all (take k list))
    → count ≡ length (members all (take (k + 1) list))
member_none all list k count within past so_far =
    so_far
    ∙ sym (ap length (members_more all list k (get_or list k 0) None within refl
    (slice_get_past all (get_or list k 0) past) ∙ append-nil (members all (take k list))))

-- a token of no buffer was not begun
pub unbegun_none : (filled : List code.Filled) (token : Token) → length filled ≤ token.buffer
    → is_unbegun (map filled_view filled) token ≡ true
unbegun_none filled token past =
    ap (is_past token) (slice_get-map filled_view filled token.buffer
    ∙ ap (option_map filled_view) (slice_get_past filled token.buffer past))

-- one of a buffer was not where its place isn't below the front
pub unbegun_some : (filled : List code.Filled) (one : code.Filled) (token : Token) (place : ℕ)
    → slice_get filled token.buffer ≡ Some one
    → place ≡ on_line one.blocks token.cycle token.first
    → leb one.front place ≡ is_unbegun (map filled_view filled) token
unbegun_some filled one token place there is =
    leb_not one.front place
    ∙ ap (λ n. not (ltb n one.front)) is
    ∙ sym (ap (is_past token) (slice_get-map filled_view filled token.buffer
    ∙ ap (option_map filled_view) there))
  where
    leb_not : (a b : ℕ) → leb a b ≡ not (ltb b a)
    leb_not a b = by (ltb b a) refl
      where
        by : (t : Bool) → ltb b a ≡ t → leb a b ≡ not (ltb b a)
        by true e =
            let less : b < a = ltb-true b a e in
            let no : leb a b ≡ false = grind (arith, nat_tests) in no ∙ sym (ap not e)
        by false e = le-leb a b (ltb-false b a e) ∙ sym (ap not e)

-- the size of one more group
pub sizes_join : (groups : List Group) (k : ℕ) (group : Group) (sizes more : List ℕ) (size : ℕ)
    → slice_get groups k ≡ Some group → size ≡ members_of group → more ≡ sizes ++ size ∷ []
    → sizes ≡ map members_of (take k groups) → more ≡ map members_of (take (k + 1) groups)
sizes_join groups k group sizes more size there is joined so_far =
    joined ∙ ap (λ xs. xs ++ size ∷ []) so_far
    ∙ ap (λ n. map members_of (take k groups) ++ n ∷ []) is
    ∙ sym (map_push members_of (take k groups) group)
    ∙ sym (ap (map members_of) (take_more groups k group (slice_get_within groups k group there)
    ∙ ap (λ one. take k groups ++ one ∷ [])
    (get_or_from_slice_get groups k group group there)))
