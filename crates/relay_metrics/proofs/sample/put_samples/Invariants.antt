use Rattle.std.proofs.Common.{◌≡◌, ◌++◌, flat_map, map, take}
use Rattle.relay_metrics.specs.Exposition.{sample}
use Rattle.relay_metrics.specs.Families.{family_view}
use Rattle.relay_metrics.specs.Lines.{line_view}
use Rattle.relay_metrics.proofs.sample.put_samples.Given as goal

-- the samples of the lines so far are there
abbrev pub invariant-loop-line : goal.invariant-loop-line
invariant-loop-line l =
    l.text.items ≡ l.fn.text.items
    ++ flat_map (sample (family_view l.family)) (map line_view (take l.line-index l.lines))
