use Rattle.std.proofs.Common.{◌≡◌, ◌++◌, flat_map, map, take}
use Rattle.relay_metrics.specs.Lines.{line_view}
use Rattle.relay_page.specs.Page.{section_text, section_view}
use Rattle.relay_page.proofs.frame.put_sections.Given as goal

-- the sections so far are there
abbrev pub invariant-loop-section : goal.invariant-loop-section
invariant-loop-section l =
    l.text.items ≡ l.fn.text.items
    ++ flat_map (section_text l.most (map line_view l.lines))
    (map section_view (take l.section-index l.sections))
