use Rattle.std.proofs.Common.{◌≡◌, drop, map}
use Rattle.std.specs.List.{list_any}
use Rattle.relay_names.specs.Text.{is_mark}
use Rattle.relay_names.specs.Views.{line_view}
use Rattle.relay_names.proofs.parts.has_mark.Given as goal

-- none of the lines so far begins a part
abbrev pub invariant-loop-line : goal.invariant-loop-line
invariant-loop-line l =
    list_any is_mark (map line_view (drop l.line-index l.lines))
    ≡ list_any is_mark (map line_view l.lines)
