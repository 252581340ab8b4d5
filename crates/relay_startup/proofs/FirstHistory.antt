-- The history of a relay that was never stopped has room in its text.
use Rattle.std.proofs.Common.{◌≡◌, ◌≤◌, ℕ, zero, suc, List, arith, length, replicate}
use Rattle.std.proofs.Common.{[]}
use Rattle.std.proofs.lemmas.List.{length-replicate}
use Rattle.std.specs.List.{AllByRecursion}
use Rattle.id_history.specs.History.{FeedFits, Fits, KeptFeed, KeptId, PositionFits}
use Rattle.relay_conf.specs.declared.settings.Config.{Config}
use Rattle.relay_startup.specs.LastHistory.{empty_feed, first_kept}

positions_fit : (n : ℕ) → AllByRecursion PositionFits (replicate n 0)
positions_fit zero = tt
positions_fit (suc n) = (omega arith, positions_fit n)

feeds_fit : (n : ℕ) → AllByRecursion FeedFits (replicate n empty_feed)
feeds_fit zero = tt
feeds_fit (suc n) = (
  record {
    gained = omega arith;
    passed = omega arith;
    taken = omega arith;
    waiting = omega arith;
    tokens = tt;
  },
  feeds_fit n,
)

pub first_fits : (config : Config) → length config.buffers.groups.items ≤ 256
    → length config.relay.feeds.items ≤ 1024 → Fits (first_kept config)
first_fits config groups feeds = record {
  stop = omega arith;
  newest = omega arith;
  groups = omega (arith, groups, length-replicate {A = ℕ} (length config.buffers.groups.items) 0);
  positions = positions_fit (length config.buffers.groups.items);
  counts = omega (arith, feeds, length-replicate (length config.relay.feeds.items) empty_feed);
  feeds = feeds_fit (length config.relay.feeds.items);
  number = omega arith;
  ids = tt;
}

-- a history of these parts is that one
pub first_parts : (config : Config) (positions : List ℕ) (feeds : List KeptFeed)
    (ids : List KeptId) → positions ≡ replicate (length config.buffers.groups.items) 0
    → feeds ≡ replicate (length config.relay.feeds.items) empty_feed → ids ≡ []
    → record {
      stop = 0;
      newest = 0;
      positions = positions;
      feeds = feeds;
      ids = ids;
    } ≡ first_kept config
first_parts config positions feeds ids are_positions are_feeds no_ids = λ i. record {
  stop = 0;
  newest = 0;
  positions = are_positions i;
  feeds = are_feeds i;
  ids = no_ids i;
}
