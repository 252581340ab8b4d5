use Rattle.std.proofs.Common.{◌≡◌, drop}
use Rattle.std.specs.List.{list_all}
use Rattle.std.specs.Char.{is_ascii}
use Rattle.date_rules.proofs.reading.is_ascii.Given as goal

-- each octet so far is ASCII
abbrev pub invariant-loop-octet : goal.invariant-loop-octet
invariant-loop-octet l =
    list_all is_ascii (drop l.octet-index l.text) ≡ list_all is_ascii l.text
