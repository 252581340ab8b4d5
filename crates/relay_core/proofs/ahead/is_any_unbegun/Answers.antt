use Rattle.std.proofs.Common.{map}
use Rattle.cyc_token.specs.Token.{token_view}
use Rattle.relay_core.proofs.Fillings.{none_passes}
use Rattle.cyc_buffer.specs.Filled.{filled_view}
use Rattle.relay_core.specs.Ahead.{is_unbegun}
use Rattle.relay_core.proofs.ahead.is_any_unbegun.Goals as goal

-- none is left
pub returns : goal.returns
returns c =
    none_passes (is_unbegun (map filled_view c.args.filled.now)) token_view c.loop-token.left.now _
    c.in_default.ensures.cases c.loop-token.invariant
