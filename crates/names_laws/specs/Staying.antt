-- When names are those of a feed or a group that stays, and when they change nothing.
use Rattle.std.specs.Prelude.{◌≡◌, ◌≢◌, ◌<◌, ℕ, List, [], Some, drop, map, bytes_eq}
use Rattle.std.specs.List.{AllByRecursion, IsDistinct, slice_get}
use Rattle.id_history.specs.History.{KeptFeed}
use Rattle.named_history.specs.Naming.{name_of}
use Rattle.news_terms.specs.Token.{Token}
use Rattle.relay_names.specs.Names.{GroupNames, Names}

-- the name is at this place, and at none before it
pub record IsFirstAt (name : List ℕ) (place : ℕ) (names : List (List ℕ)) : Type 0 where
  pub there : slice_get names place ≡ Some name
  pub first : (before : ℕ) → before < place → slice_get names before ≢ Some name

-- the name is at no place
pub record IsNowhere (name : List ℕ) (names : List (List ℕ)) : Type 0 where
  pub none : (place : ℕ) → slice_get names place ≢ Some name

-- of the names those before this place are nowhere among the others
pub record AreGoneBefore (place : ℕ) (names others : List (List ℕ)) : Type 0 where
  pub gone : (before : ℕ) (name : List ℕ) → before < place → slice_get names before ≡ Some name
      → IsNowhere name others

-- no buffer of the group has the name of another
abbrev pub HasDistinctBuffers : GroupNames → Type 0
HasDistinctBuffers group = IsDistinct bytes_eq group.buffers

-- no feed and no group has the name of another, nor has a buffer that of another of its group
pub record AreDistinct (names : Names) : Type 0 where
  pub feeds : IsDistinct bytes_eq names.feeds
  pub groups : IsDistinct bytes_eq (map name_of names.groups)
  pub buffers : AllByRecursion HasDistinctBuffers names.groups

-- the tokens are the newest of those that waited in one of these feeds, or there are none
pub data WaitedIn (kept : List KeptFeed) : (tokens : List Token) → Type 0 where
  Nothing : WaitedIn kept []
  TheNewest : (place older : ℕ) (feed : KeptFeed) → slice_get kept place ≡ Some feed
      → WaitedIn kept (drop older feed.waiting)
