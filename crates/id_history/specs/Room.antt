-- The numbers of a history's lists have room in its text.
use Rattle.std.specs.Prelude.{◌<◌, ◌^◌, length}
use Rattle.std.specs.List.{All}
use Rattle.id_history.specs.declared.kept.History.{History}
use Rattle.id_history.specs.declared.kept.KeptFeed.{KeptFeed}

-- there aren't too many groups and feeds, nor tokens in a ring; that all else has room is said by
-- its type
pub record HasRoom (history : History) : Type 0 where
  pub groups : length history.positions.items < 2 ^ 32
  pub feeds : length history.feeds.items < 2 ^ 32
  pub waiting : All (λ (feed : KeptFeed). length feed.waiting.items < 2 ^ 32) history.feeds.items
