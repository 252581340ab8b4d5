use Rattle.std.proofs.Common.{◌≡◌, map, take}
use Rattle.relay_names.specs.Text.{names_said}
use Rattle.relay_names.specs.Views.{line_view, names_view}
use Rattle.relay_names.proofs.parts.names_by.Given as goal

-- the names are those that the lines so far say
abbrev pub invariant-loop-line : goal.invariant-loop-line
invariant-loop-line l = names_view l.names ≡ names_said (map line_view (take l.line-index l.lines))
