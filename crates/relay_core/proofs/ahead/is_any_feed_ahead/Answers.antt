use Rattle.std.proofs.Common.{map}
use Rattle.id_history.specs.Views.{feed_view}
use Rattle.relay_core.proofs.Fillings.{none_passes}
use Rattle.cyc_buffer.specs.Filled.{filled_view}
use Rattle.relay_core.specs.Ahead.{is_feed_ahead}
use Rattle.relay_core.proofs.ahead.is_any_feed_ahead.Goals as goal

-- none is left
pub returns : goal.returns
returns c =
    none_passes (is_feed_ahead (map filled_view c.args.filled.now)) feed_view c.loop-feed.left.now _
    c.in_default.ensures.cases c.loop-feed.invariant
