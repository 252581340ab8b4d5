use Rattle.std.proofs.Common.{◌≡◌, ◌++◌, drop}
use Rattle.news_terms.specs.Path.{path_octets}
use Rattle.path_rules.proofs.rules.identity_of.Given as goal

-- the octets kept stand before those of what is left
abbrev pub invariant-loop-octet : goal.invariant-loop-octet
invariant-loop-octet l =
    l.octets.items ++ path_octets (drop l.octet-index l.piece) ≡ path_octets l.piece
