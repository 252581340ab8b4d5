use Rattle.std.proofs.Common.{◌≡◌, length, map}
use Rattle.std.specs.List.{AllByRecursion}
use Rattle.id_history.specs.Conditions.{feeds_hold}
use Rattle.id_history.specs.History.{FeedFits}
use Rattle.id_history.specs.Views.{feed_view}
use Rattle.relay_startup.specs.Causes.{own_rings}
use Rattle.relay_startup.proofs.causes.hold_own.Given as goal

-- what is left passes exactly where all does, and has room
abbrev pub invariant-loop-feed : goal.invariant-loop-feed
invariant-loop-feed l = record {
  fit : AllByRecursion FeedFits (map feed_view l.left);
  same : feeds_hold 256 (map feed_view l.left) (own_rings (map feed_view l.left))
      ≡ feeds_hold 256 (map feed_view l.feeds) (own_rings (map feed_view l.feeds));
}

abbrev pub decreases-loop-feed : goal.decreases-loop-feed
decreases-loop-feed l = length l.left
