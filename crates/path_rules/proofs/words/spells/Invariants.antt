use Rattle.std.proofs.Common.{◌≡◌, drop}
use Rattle.std.specs.Prelude.{bytes_eq}
use Rattle.news_terms.specs.Path.{path_octets}
use Rattle.path_rules.proofs.words.spells.Given as goal

-- what is left of the piece spells what is left of the word exactly where the piece spells the word
abbrev pub invariant-loop-octet : goal.invariant-loop-octet
invariant-loop-octet l =
    bytes_eq (path_octets (drop l.octet-index l.piece)) l.rest
    ≡ bytes_eq (path_octets l.piece) l.fn.word
