-- What is left of the feeds where the relay is closed (docs/PROTOCOL.md, Clean stop and start).
use Rattle.std.specs.Prelude.{◌≡◌, ℕ, ◌≤◌, List, length, slice_index, slice_get, Some}
use Rattle.id_history.specs.History.{KeptFeed}
use Rattle.news_terms.specs.Ring as terms
use Rattle.relay_model.specs.Shares.{as_ring}
use Rattle.relay_model.specs.State.{Feed}

-- it is what is left of this feed, whose ring has this size: the end of its list and its counts
pub record IsLeft (kept : KeptFeed) (size : ℕ) (feed : Feed) : Type 0 where
  pub gained : kept.gained ≡ length feed.gained
  pub passed : kept.passed ≡ feed.passed
  pub taken : kept.taken ≡ feed.taken
  pub waiting : kept.waiting ≡ terms.ring size (as_ring feed)
  pub within : feed.passed ≤ length feed.gained
  pub had : kept.taken ≤ kept.passed

-- they are what is left of these feeds, each by its number and with its size
pub record AreLeft (kept : List KeptFeed) (sizes : List ℕ) (feeds : ℕ → Feed) : Type 0 where
  pub count : length kept ≡ length sizes
  pub each : (f : ℕ) (one : KeptFeed) → slice_get kept f ≡ Some one
      → IsLeft one (slice_index sizes f) (feeds f)
