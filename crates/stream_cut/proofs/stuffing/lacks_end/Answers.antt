use Rattle.std.proofs.Common.{◌∙◌, ap, rules}
use Rattle.std.proofs.Math.Dec.{eqb}
use Rattle.std.specs.List.{ends_with}
use Rattle.stream_cut.proofs.TextLemmas.{stuffed_end}
use Rattle.stream_cut.proofs.stuffing.lacks_end.Goals as goal

pub returns-then-not-is_empty : goal.returns-then-not-is_empty
returns-then-not-is_empty c =
    stuffed_end c.args.rest.now c.ends_with.result c.requires
    (c.ends_with.ensures.value ∙ ap (ends_with eqb c.args.rest.now) c.as_slice.ensures)
    (search rules)
