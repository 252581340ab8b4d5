use Rattle.std.proofs.Common.{◌≡◌, drop}
use Rattle.std.specs.Prelude.{nat_eq}
use Rattle.std.specs.List.{starts_with}
use Rattle.news_terms.specs.Path.{path_octets}
use Rattle.path_rules.proofs.words.begins.Given as goal

-- what is left of the piece begins with what is left of the word exactly where the piece begins
-- with the word
abbrev pub invariant-loop-octet : goal.invariant-loop-octet
invariant-loop-octet l =
    starts_with nat_eq (path_octets (drop l.octet-index l.piece)) l.rest
    ≡ starts_with nat_eq (path_octets l.piece) l.fn.word
