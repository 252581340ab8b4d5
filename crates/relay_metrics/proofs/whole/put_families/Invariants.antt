use Rattle.std.proofs.Common.{◌≡◌, ◌++◌, flat_map, map, take}
use Rattle.relay_metrics.specs.Exposition.{family_text}
use Rattle.relay_metrics.specs.Families.{family_view}
use Rattle.relay_metrics.specs.Lines.{line_view}
use Rattle.relay_metrics.proofs.whole.put_families.Given as goal

-- the families so far are there
abbrev pub invariant-loop-family : goal.invariant-loop-family
invariant-loop-family l =
    l.text.items ≡ l.fn.text.items
    ++ flat_map (family_text (map line_view l.lines))
    (map family_view (take l.family-index l.families))
