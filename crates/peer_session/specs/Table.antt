-- What holds of each table of open offers (docs/PROTOCOL.md, Open offers).
use Rattle.std.specs.Prelude.{◌≡◌, ◌≢◌, ◌<◌, ◌≤◌, ℕ, List, Option, None, Some, length}
use Rattle.std.specs.Prelude.{slice_index_or, vec_capacity}
use Rattle.std.specs.List.{AllPairs}
use Rattle.relay_model.specs.Terms.{offer_limit}
use Rattle.peer_session.specs.Places.{ids_of, open_ids, open_offers, place_count}
use Rattle.peer_session.specs.Chains.{AreChains, HasRoom}
use Rattle.peer_session.specs.declared.table.Table.{Table}

-- the first place that has an id, if any has: none before it has one
pub record IsFirst (places : List (Option (List ℕ))) (first : ℕ) : Type 0 where
  pub within : first ≤ length places
  pub before : (j : ℕ) → j < first → slice_index_or places j None ≡ None
  pub first_open : first < length places
      → (id : List ℕ) × (slice_index_or places first None ≡ Some id)

-- the table's parts agree
pub record IsTable (table : Table) : Type 0 where
  pub chains : AreChains (ids_of table.offers.items) table.chains
  pub chain_room : HasRoom table.chains
  pub once : AllPairs (λ id other. id ≢ other) (open_ids (ids_of table.offers.items))
  pub counted : table.count ≡ length (open_offers table.offers.items)
  pub few : table.count ≤ offer_limit
  pub first : IsFirst (ids_of table.offers.items) table.first
  pub within : length table.offers.items ≤ place_count
  pub room : place_count ≤ vec_capacity table.offers
