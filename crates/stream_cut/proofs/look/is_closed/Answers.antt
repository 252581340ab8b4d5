use Rattle.std.proofs.Common.{◌∙◌, ap}
use Rattle.std.proofs.Math.Dec.{eqb}
use Rattle.std.specs.List.{starts_with}
use Rattle.stream_cut.proofs.PassLemmas.{closed_or_not}
use Rattle.stream_cut.proofs.look.is_closed.Goals as goal

pub returns : goal.returns
returns c =
    closed_or_not c.args.octets.now c.starts_with.result
    (c.starts_with.ensures.value ∙ ap (starts_with eqb c.args.octets.now) c.as_slice.ensures)
