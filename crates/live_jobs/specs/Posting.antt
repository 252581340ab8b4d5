-- What a desk of rings keeps where its posts are counted (docs/PROTOCOL.md, Rings).
use Rattle.std.specs.Prelude.{ℕ, ◌≤◌, List, [], ◌∷◌, length, max}
use Rattle.id_history.specs.History.{KeptFeed}
use Rattle.feed_queue.specs.Feeds.{KeepsFeeds}
use Rattle.feed_queue.specs.declared.desk.FeedDesk.{FeedDesk}
use Rattle.relay_model.specs.State.{Feed}

-- the desk keeps some feeds, each the end of its list, none of which gained more tokens than this
pub record KeepsAtMost (desk : FeedDesk) (most : ℕ) : Type 0 where
  pub sizes : List ℕ
  pub feeds : ℕ → Feed
  pub keeps : KeepsFeeds desk sizes feeds
  pub few : (f : ℕ) → length (feeds f).gained ≤ most

-- the most tokens that one of these feeds had gained
abbrev pub most_gained : List KeptFeed → ℕ
most_gained [] = 0
most_gained (feed ∷ feeds) = max feed.gained (most_gained feeds)
