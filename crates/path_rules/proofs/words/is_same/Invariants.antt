use Rattle.std.proofs.Common.{◌≡◌, drop}
use Rattle.std.specs.Str.{str_eq_ignore_ascii_case}
use Rattle.news_terms.specs.Path.{path_octets}
use Rattle.path_rules.proofs.words.is_same.Given as goal

-- what is left of the piece is the same as what is left of the word exactly where the piece is the
-- same as the word
abbrev pub invariant-loop-octet : goal.invariant-loop-octet
invariant-loop-octet l =
    str_eq_ignore_ascii_case (path_octets (drop l.octet-index l.piece)) l.rest
    ≡ str_eq_ignore_ascii_case (path_octets l.piece) l.fn.word
