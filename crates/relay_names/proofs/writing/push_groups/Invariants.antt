use Rattle.std.proofs.Common.{◌≡◌, ◌++◌, flat_map, map, take}
use Rattle.relay_names.specs.Text.{group_words, line_octets}
use Rattle.relay_names.specs.Views.{group_view}
use Rattle.relay_names.proofs.writing.push_groups.Given as goal

-- the lines of the groups so far are put
abbrev pub invariant-loop-group : goal.invariant-loop-group
invariant-loop-group l =
    l.text.items ≡ l.fn.text.items
    ++ flat_map line_octets (map group_words (map group_view (take l.group-index l.groups)))
