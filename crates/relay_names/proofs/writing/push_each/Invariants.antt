use Rattle.std.proofs.Common.{◌≡◌, ◌++◌, ◌∷◌, [], flat_map, map, take}
use Rattle.relay_names.specs.Text.{line_octets}
use Rattle.relay_names.proofs.writing.push_each.Given as goal

-- the lines of the names so far are put
abbrev pub invariant-loop-name : goal.invariant-loop-name
invariant-loop-name l =
    l.text.items ≡ l.fn.text.items
    ++ flat_map line_octets (map (λ name. l.kind ∷ name ∷ []) (take l.name-index l.names))
