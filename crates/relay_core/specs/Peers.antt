-- The peers that are here, by the numbers of their sessions, and what a call makes of them.
use Rattle.std.specs.Prelude.{◌≡◌, ◌≢◌, ℕ, ◌+◌, Bool, IsTrue, nat_eq}
use Rattle.std.specs.Prelude.{Option, None, Some, IfSome, is_some, option_and_then, option_map}
use Rattle.std.specs.Prelude.{if◌then◌else◌}
use Rattle.std.specs.HashMap.{get, hash_map_len}
use Rattle.relay_model.specs.State as model
use Rattle.peer_session.specs.Session.{session_view}
use Rattle.peer_session.specs.declared.steps.Outcome.{Outcome}
use Rattle.relay_core.specs.declared.peers.Peer.{Peer}
use Rattle.relay_core.specs.declared.peers.Peers.{Peers}

-- the peer of the number: none where it is lent out, or there is no place of this number
unfoldable pub peer_at : Peers → ℕ → Option Peer
peer_at peers s = option_and_then (λ (place : Option Peer). place) (get nat_eq peers.peers s)

-- whether there is a place of the number, lent out or not
unfoldable pub has_place : Peers → ℕ → Bool
has_place peers s = is_some (get nat_eq peers.peers s)

-- how many places there are, lent out or not
unfoldable pub place_count : Peers → ℕ
place_count peers = hash_map_len peers.peers

-- there is a place of the number, lent out or not
abbrev pub HasPlace : Peers → ℕ → Type 0
HasPlace peers s = IsTrue (has_place peers s)

-- no peer is here
abbrev pub NoPeers : Peers → Type 0
NoPeers peers = (s : ℕ) → peer_at peers s ≡ None

-- the session of the definitions that the peer of the number is, where one is here
abbrev pub session_at : Peers → ℕ → Option model.Session
session_at peers s = option_map (λ (peer : Peer). session_view peer.session) (peer_at peers s)

-- of each number the same peer is here
abbrev pub SamePeers : Peers → Peers → Type 0
SamePeers old new = (s : ℕ) → peer_at new s ≡ peer_at old s

-- of every other number the same peer is here
abbrev pub OthersStay : ℕ → Peers → Peers → Type 0
OthersStay number old new = (s : ℕ) → s ≢ number → peer_at new s ≡ peer_at old s

-- every other number has a place exactly where it had one
abbrev pub OtherPlacesStay : ℕ → Peers → Peers → Type 0
OtherPlacesStay number old new = (s : ℕ) → s ≢ number → has_place new s ≡ has_place old s

-- each number has a place exactly where it had one
pub record SamePlaces (old new : Peers) : Type 0 where
  pub each : (s : ℕ) → has_place new s ≡ has_place old s
  pub count : place_count new ≡ place_count old

-- The peer of the number, if it was here, is lent out; its place stays.
pub record TakesPeer (number : ℕ) (old : Peers) (result : Option Peer) (new : Peers) : Type 0 where
  pub result_is : result ≡ peer_at old number
  pub others : OthersStay number old new
  pub gone : peer_at new number ≡ None
  pub place : IfSome result (λ peer. HasPlace new number)
  pub places : SamePlaces old new

-- This peer is here under the number, whose place is a new one if it had none.
pub record GivesPeer (number : ℕ) (peer : Peer) (old new : Peers) : Type 0 where
  pub here : peer_at new number ≡ Some peer
  pub others : OthersStay number old new
  pub place : HasPlace new number
  pub other_places : OtherPlacesStay number old new
  pub count : place_count new ≡ place_count old + (if has_place old number then 0 else 1)

-- Nothing is left of the number: no peer and no place.
pub record ClosesPeer (number : ℕ) (old new : Peers) : Type 0 where
  pub gone : peer_at new number ≡ None
  pub others : OthersStay number old new
  pub no_place : HasPlace new number → ⊥
  pub other_places : OtherPlacesStay number old new
  pub count : place_count new + (if has_place old number then 1 else 0) ≡ place_count old

-- the peer, if there is one, with this outcome in its slot
abbrev pub with_slot : Option Peer → Outcome → Option Peer
with_slot None outcome = None
with_slot (Some peer) outcome = Some (record peer { slot = Some outcome })

-- The peer of the number, if it is here, has this outcome in its slot.
pub record TellsPeer (number : ℕ) (outcome : Outcome) (old new : Peers) : Type 0 where
  pub here : peer_at new number ≡ with_slot (peer_at old number) outcome
  pub others : OthersStay number old new
  pub places : SamePlaces old new
