use Rattle.std.proofs.Common.{map}
use Rattle.id_history.specs.Views.{id_view}
use Rattle.relay_core.proofs.Fillings.{none_passes}
use Rattle.cyc_buffer.specs.Filled.{filled_view}
use Rattle.relay_core.specs.Ahead.{is_id_ahead}
use Rattle.relay_core.proofs.ahead.is_any_id_ahead.Goals as goal

-- none is left
pub returns : goal.returns
returns c =
    none_passes (is_id_ahead (map filled_view c.args.filled.now)) id_view c.loop-one.left.now _
    c.in_default.ensures.cases c.loop-one.invariant
