use Rattle.std.proofs.Common.{◌≡◌, length, map}
use Rattle.std.specs.List.{list_any}
use Rattle.id_history.specs.Views.{feed_view}
use Rattle.cyc_buffer.specs.Filled.{filled_view}
use Rattle.relay_core.specs.Ahead.{is_feed_ahead}
use Rattle.relay_core.proofs.ahead.is_any_feed_ahead.Given as goal

-- what is left passes exactly where all does
abbrev pub invariant-loop-feed : goal.invariant-loop-feed
invariant-loop-feed l =
    list_any (is_feed_ahead (map filled_view l.filled)) (map feed_view l.left)
    ≡ list_any (is_feed_ahead (map filled_view l.filled)) (map feed_view l.feeds)

abbrev pub decreases-loop-feed : goal.decreases-loop-feed
decreases-loop-feed l = length l.left
