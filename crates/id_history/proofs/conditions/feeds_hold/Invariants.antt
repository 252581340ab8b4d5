use Rattle.std.proofs.Common.{◌≡◌, length, map}
use Rattle.id_history.specs.Conditions.{feeds_hold}
use Rattle.id_history.specs.Views.{feed_view}
use Rattle.id_history.proofs.conditions.feeds_hold.Given as goal

-- what is left passes exactly where all does
abbrev pub invariant-loop-feed : goal.invariant-loop-feed
invariant-loop-feed l =
    feeds_hold l.buffers (map feed_view l.left) l.sizes
    ≡ feeds_hold l.buffers (map feed_view l.feeds) l.rings

abbrev pub decreases-loop-feed : goal.decreases-loop-feed
decreases-loop-feed l = length l.left
