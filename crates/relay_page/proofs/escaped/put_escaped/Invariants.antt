use Rattle.std.proofs.Common.{◌≡◌, ◌++◌, flat_map, take}
use Rattle.relay_page.specs.Text.{escaped_octet}
use Rattle.relay_page.proofs.escaped.put_escaped.Given as goal

-- the octets so far are there
abbrev pub invariant-loop-octet : goal.invariant-loop-octet
invariant-loop-octet l =
    l.text.items ≡ l.fn.text.items ++ flat_map escaped_octet (take l.octet-index l.name)
