use Rattle.std.proofs.Common.{◌≡◌, drop, map}
use Rattle.std.specs.List.{list_any}
use Rattle.relay_metrics.specs.Exposition.{has_sample}
use Rattle.relay_metrics.specs.Families.{family_view}
use Rattle.relay_metrics.specs.Lines.{line_view}
use Rattle.relay_metrics.proofs.sample.has_samples.Given as goal

-- none so far has one
abbrev pub invariant-loop-line : goal.invariant-loop-line
invariant-loop-line l =
    list_any (has_sample (family_view l.family)) (map line_view (drop l.line-index l.lines))
    ≡ list_any (has_sample (family_view l.family)) (map line_view l.lines)
