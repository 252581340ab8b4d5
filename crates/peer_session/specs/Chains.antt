-- The chains of places by which an id is found. A link is a number: 0 leads nowhere, another one to
-- the place before it.
use Rattle.std.specs.Prelude.{◌≡◌, ◌<◌, ◌≤◌, ◌+◌, ℕ, List, Option, None, Some, length}
use Rattle.std.specs.Prelude.{slice_index, slice_index_or, vec_capacity}
use Rattle.peer_session.specs.Places.{bucket_of, place_count, bucket_count}
use Rattle.peer_session.specs.declared.chains.Chains.{Chains}
use Rattle.peer_session.specs.declared.chains.Spot.{Spot}

-- from the latest link of an id's bucket on, the older links lead over places of that bucket alone,
-- and to each place that has an id of it
pub record IsLinked (hash : List ℕ → ℕ) (places : List (Option (List ℕ)))
    (latest buckets older : List ℕ) : Type 0 where
  pub bucket_each : length buckets ≡ length places
  pub older_each : length older ≡ length places
  -- links lead backwards
  pub latest_within : (b : ℕ) → slice_index latest b ≤ length places
  pub older_below : (i : ℕ) → slice_index older i ≤ i
  -- within a bucket
  pub latest_same : (b n : ℕ) → slice_index latest b ≡ n + 1 → slice_index buckets n ≡ b
  pub older_same : (i n : ℕ) → slice_index older i ≡ n + 1
      → slice_index buckets n ≡ slice_index buckets i
  pub own : (j : ℕ) (id : List ℕ) → slice_index_or places j None ≡ Some id
      → slice_index buckets j ≡ hash id
  -- and pass no id of it
  pub none_later : (j : ℕ) (id : List ℕ) → slice_index_or places j None ≡ Some id
      → j < slice_index latest (hash id)
  pub none_between : (i j : ℕ) (id : List ℕ) → slice_index_or places j None ≡ Some id
      → j < i → i < length places → slice_index buckets i ≡ hash id → j < slice_index older i

-- the chains lead to the ids of these places
abbrev pub AreChains : List (Option (List ℕ)) → Chains → Type 0
AreChains places chains = IsLinked (bucket_of chains.hasher) places chains.latest.items
    chains.buckets.items chains.older.items

-- there is a link for each bucket, and room for one from each place
pub record HasRoom (chains : Chains) : Type 0 where
  pub buckets : length chains.latest.items ≡ bucket_count
  pub room : place_count ≤ vec_capacity chains.buckets
  pub older_room : place_count ≤ vec_capacity chains.older

-- this link leads to a place of the bucket: that of the bucket itself, where `newer` is 0, or the
-- one from the place before `newer`
pub data Leads (chains : Chains) (bucket newer link : ℕ) : Type 0 where
  FromLatest : newer ≡ 0 → slice_index chains.latest.items bucket ≡ link
      → Leads chains bucket newer link
  FromNewer : (m : ℕ) → newer ≡ m + 1 → m < length chains.buckets.items
      → slice_index chains.buckets.items m ≡ bucket → slice_index chains.older.items m ≡ link
      → Leads chains bucket newer link

-- a place, its bucket and the link to it
pub record IsSpot (chains : Chains) (spot : Spot) : Type 0 where
  pub bucket_within : spot.bucket < bucket_count
  pub place_within : spot.place < length chains.buckets.items
  pub bucket : slice_index chains.buckets.items spot.place ≡ spot.bucket
  pub leads : Leads chains spot.bucket spot.newer (spot.place + 1)
