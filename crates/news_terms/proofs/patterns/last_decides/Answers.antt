use Rattle.std.proofs.lemmas.List.Elements.{recursion_from_All}
use Rattle.news_terms.specs.Pattern.{Marked, Matches}
use Rattle.news_terms.proofs.Matching.{true_matches, none_matches, verdict-last, verdict-none}
use Rattle.news_terms.proofs.patterns.last_decides.Goals as goal

pub returns-clause-last : goal.returns-clause-last
returns-clause-last c before after m name h none =
    verdict-last before after m name (true_matches m.pattern name h)
    (none_matches name after
    (recursion_from_All (λ (x : Marked). ¬ Matches x.pattern name) after none))

pub returns-clause-none : goal.returns-clause-none
returns-clause-none c expression name none =
    verdict-none expression name
    (none_matches name expression
    (recursion_from_All (λ (x : Marked). ¬ Matches x.pattern name) expression none))
