-- What a change of the map does to the peers and to their places.
use Rattle.std.proofs.Common.{◌≡◌, ◌≢◌, ◌∙◌, ap, refl, subst, sym, rules, ℕ}
use Rattle.std.proofs.Common.{Option, None, Some, nat_eq, arith, ◌+◌, true≢false}
use Rattle.std.specs.Prelude.{is_some, option_and_then, if◌then◌else◌, OnErr, Result, Ok, Err}
use Rattle.std.specs.HashMap.{get, hash_map_len, UpdatesBy, WritesThrough}
use Rattle.std.specs.List.{list_any}
use Rattle.std.proofs.lemmas.Bool.{ne_eqb}
use Rattle.std.proofs.lemmas.Map.Made.{is_some-lookup}
use Rattle.peer_session.specs.declared.steps.Outcome.{Outcome}
use Rattle.relay_core.specs.declared.peers.Peer.{Peer}
use Rattle.relay_core.specs.declared.peers.Peers.{Peers}
use Rattle.relay_core.specs.Peers.{peer_at, has_place, place_count, OthersStay}
use Rattle.relay_core.specs.Peers.{OtherPlacesStay, SamePeers, SamePlaces, TakesPeer, GivesPeer}
use Rattle.relay_core.specs.Peers.{ClosesPeer, TellsPeer, with_slot}

-- what holds holds where an error is answered
pub on_err : {T E P : Type 0} (answer : Result T E) → P → OnErr answer P
on_err (Ok told) holds = tt
on_err (Err error) holds = holds

-- the peer of what the map has at a number
abbrev peer_of : Option (Option Peer) → Option Peer
peer_of = option_and_then (λ (place : Option Peer). place)

-- the map changes at the number alone, where it has this from now on
abbrev Changes : Peers → Peers → ℕ → Option (Option Peer) → Type 0
Changes old new number entry = UpdatesBy nat_eq (nat_eq number) old.peers new.peers entry

-- what is written to the number's entry of the map, if it has one, is this at the end
abbrev Writes : Peers → Peers → ℕ → Option Peer → Type 0
Writes old new number place = WritesThrough nat_eq (nat_eq number) old.peers place new.peers

-- of another number the map has what it had
entry_apart : (old new : Peers) (number : ℕ) (entry : Option (Option Peer))
    → Changes old new number entry → (s : ℕ) → s ≢ number
    → get nat_eq new.peers s ≡ get nat_eq old.peers s
entry_apart old new number entry changes s apart =
    changes.2 s (ne_eqb number s (λ same. apart (sym same)))

-- the peer of the number, by what the map has there
pub peer_at-entry : (peers : Peers) (s : ℕ) (entry : Option (Option Peer))
    → get nat_eq peers.peers s ≡ entry → peer_at peers s ≡ peer_of entry
unfolding peer_at
peer_at-entry peers s entry has = ap peer_of has

-- whether the number has a place, by what the map has there
pub has_place-entry : (peers : Peers) (s : ℕ) (entry : Option (Option Peer))
    → get nat_eq peers.peers s ≡ entry → has_place peers s ≡ is_some entry
unfolding has_place
has_place-entry peers s entry has = ap is_some has

-- the other peers stay
others_stay : (old new : Peers) (number : ℕ) (entry : Option (Option Peer))
    → Changes old new number entry → OthersStay number old new
unfolding peer_at
others_stay old new number entry changes s apart =
    ap peer_of (entry_apart old new number entry changes s apart)

-- the other places stay
other_places_stay : (old new : Peers) (number : ℕ) (entry : Option (Option Peer))
    → Changes old new number entry → OtherPlacesStay number old new
unfolding has_place
other_places_stay old new number entry changes s apart =
    ap is_some (entry_apart old new number entry changes s apart)

-- where the entries stay, the peers do
pub SamePeers-from_entries : (old new : Peers) → new.peers.entries ≡ old.peers.entries
    → SamePeers old new
unfolding peer_at
SamePeers-from_entries old new same s = rw same refl

-- where the entries stay, the places do
pub SamePlaces-from_entries : (old new : Peers) → new.peers.entries ≡ old.peers.entries
    → SamePlaces old new
unfolding has_place place_count
SamePlaces-from_entries old new same = record { each = λ s. rw same refl; count = rw same refl }

-- where the keys stay, the places do
pub SamePlaces-from_write : (old new : Peers) (number : ℕ) (place : Option Peer)
    → Writes old new number place → SamePlaces old new
unfolding has_place place_count
SamePlaces-from_write old new number place writes = record {
  each = λ s.
      is_some-lookup (nat_eq s) new.peers.entries ∙ ap (list_any (nat_eq s)) writes.1
      ∙ sym (is_some-lookup (nat_eq s) old.peers.entries);
  count = writes.2;
}

-- one more place, unless the number had one
count_with : (old new : Peers) (number : ℕ) (had : Option (Option Peer))
    → had ≡ get nat_eq old.peers number
    → hash_map_len new.peers ≡ hash_map_len old.peers + (if is_some had then 0 else 1)
    → place_count new ≡ place_count old + (if has_place old number then 0 else 1)
unfolding has_place place_count
count_with old new number had is count = rw is at count

-- one place less, if the number had one
count_without : (old new : Peers) (number : ℕ) (had : Option (Option Peer))
    → had ≡ get nat_eq old.peers number
    → hash_map_len new.peers + (if is_some had then 1 else 0) ≡ hash_map_len old.peers
    → place_count new + (if has_place old number then 1 else 0) ≡ place_count old
unfolding has_place place_count
count_without old new number had is count = rw is at count

-- an entry with a peer is put into the map
pub GivesPeer-from_insert : (old new : Peers) (number : ℕ) (peer : Peer)
    (had : Option (Option Peer)) → had ≡ get nat_eq old.peers number
    → Changes old new number (Some (Some peer))
    → hash_map_len new.peers ≡ hash_map_len old.peers + (if is_some had then 0 else 1)
    → GivesPeer number peer old new
GivesPeer-from_insert old new number peer had is changes count = record {
  here = peer_at-entry new number _ changes.1;
  others = others_stay old new number _ changes;
  place = has_place-entry new number _ changes.1;
  other_places = other_places_stay old new number _ changes;
  count = count_with old new number had is count;
}

-- an entry is taken out of the map
pub ClosesPeer-from_remove : (old new : Peers) (number : ℕ) (had : Option (Option Peer))
    → had ≡ get nat_eq old.peers number → Changes old new number None
    → hash_map_len new.peers + (if is_some had then 1 else 0) ≡ hash_map_len old.peers
    → ClosesPeer number old new
ClosesPeer-from_remove old new number had is changes count = record {
  gone = peer_at-entry new number _ changes.1;
  others = others_stay old new number _ changes;
  no_place = λ has. true≢false (sym has ∙ has_place-entry new number _ changes.1);
  other_places = other_places_stay old new number _ changes;
  count = count_without old new number had is count;
}

-- a place gets a peer
pub GivesPeer-from_write : (old new : Peers) (number : ℕ) (peer : Peer)
    (had left : Option Peer) → get nat_eq old.peers number ≡ Some had → left ≡ Some peer
    → Writes old new number left → GivesPeer number peer old new
GivesPeer-from_write old new number peer had left has given writes =
    let count : hash_map_len new.peers ≡ hash_map_len old.peers + 0 = omega (arith, writes.2) in
    GivesPeer-from_insert old new number peer (Some had) (sym has)
    (subst (λ place. Changes old new number (Some place)) given (writes.3 (ap is_some has))) count

-- a place loses its peer
pub TakesPeer-from_write : (old new : Peers) (number : ℕ) (had left : Option Peer)
    → get nat_eq old.peers number ≡ Some had → left ≡ None
    → Writes old new number left → TakesPeer number old had new
TakesPeer-from_write old new number had left has none writes =
    let changes = writes.3 (ap is_some has) in
    let stays = has_place-entry new number _ changes.1 in
    record {
      result_is = sym (peer_at-entry old number _ has);
      others = others_stay old new number _ changes;
      gone = peer_at-entry new number _ changes.1 ∙ none;
      place = search (rules, stays);
      places = SamePlaces-from_write old new number left writes;
    }

-- where there is no place, none is lent
pub TakesPeer-from_none : (peers : Peers) (number : ℕ) → get nat_eq peers.peers number ≡ None
    → TakesPeer number peers None peers
TakesPeer-from_none peers number has =
    let none = peer_at-entry peers number _ has in
    record {
      result_is = sym none;
      others = λ s apart. refl;
      gone = none;
      place = tt;
      places = SamePlaces-from_entries peers peers refl;
    }

-- what a place has gets the outcome
pub TellsPeer-from_write : (old new : Peers) (number : ℕ) (had left : Option Peer)
    (outcome : Outcome) → get nat_eq old.peers number ≡ Some had
    → left ≡ with_slot had outcome → Writes old new number left → TellsPeer number outcome old new
TellsPeer-from_write old new number had left outcome has told writes =
    let changes = writes.3 (ap is_some has) in
    record {
      here =
          peer_at-entry new number _ changes.1 ∙ told
          ∙ ap (λ peer. with_slot peer outcome) (sym (peer_at-entry old number _ has));
      others = others_stay old new number _ changes;
      places = SamePlaces-from_write old new number left writes;
    }

-- where there is no place, nothing is told
pub TellsPeer-from_none : (peers : Peers) (number : ℕ) (outcome : Outcome)
    → get nat_eq peers.peers number ≡ None → TellsPeer number outcome peers peers
TellsPeer-from_none peers number outcome has =
    let none = peer_at-entry peers number _ has in
    record {
      here = none ∙ ap (λ peer. with_slot peer outcome) (sym none);
      others = λ s apart. refl;
      places = SamePlaces-from_entries peers peers refl;
    }
