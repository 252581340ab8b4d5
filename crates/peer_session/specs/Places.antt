-- The places of a table: each has an open offer, or none once it has ended.
use Rattle.std.specs.Prelude.{ℕ, ◌%◌, List, Option, map, option_map}
use Rattle.std.specs.List.{filter_map}
use Rattle.std.specs.Hash.DefaultHasher.{write, finish}
use Rattle.std.specs.RandomState.{initial_hasher}
use Rattle.std.specs.declared.random_state.RandomState.{RandomState}
use Rattle.relay_model.specs.State.{OpenOffer}
use Rattle.peer_session.specs.declared.chains.Opened.{Opened}

-- how many places there are
abbrev pub place_count : ℕ
place_count = 512

-- how many buckets there are
abbrev pub bucket_count : ℕ
bucket_count = 512

-- an open offer as the definitions have it
abbrev pub offer_view : Opened → OpenOffer
offer_view one = record { id = one.id; since = one.since }

-- the open offers of the places that have one, in their order
abbrev pub open_offers : List (Option Opened) → List OpenOffer
open_offers places = filter_map (option_map offer_view) places

-- the id that each place has, if any
abbrev pub ids_of : List (Option Opened) → List (Option (List ℕ))
ids_of places = map (option_map (λ (one : Opened). one.id)) places

-- the ids of the places that have one, in their order
abbrev pub open_ids : List (Option (List ℕ)) → List (List ℕ)
open_ids places = filter_map (λ place. place) places

-- the bucket of an id, from its hash
unfoldable pub bucket_of : RandomState → List ℕ → ℕ
bucket_of hasher id = finish (write (initial_hasher hasher) id) % bucket_count
