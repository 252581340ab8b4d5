use Rattle.std.proofs.Common.{◌≡◌, drop}
use Rattle.std.specs.Char.{is_ascii_graphic}
use Rattle.std.specs.List.{list_all}
use Rattle.news_terms.specs.Path.{path_octets}
use Rattle.path_rules.proofs.pieces.is_good.Given as goal

-- each octet so far is white space or printable
abbrev pub invariant-loop-octet : goal.invariant-loop-octet
invariant-loop-octet l =
    list_all is_ascii_graphic (path_octets (drop l.octet-index l.path))
    ≡ list_all is_ascii_graphic (path_octets l.path)
