use Rattle.std.proofs.Common.{sym, ◌∙◌, ap}
use Rattle.news_terms.specs.Path.{is_expected}
use Rattle.path_rules.proofs.PathCuts.{leftmost-cut, leftmost-last}
use Rattle.path_rules.proofs.pieces.is_from.Goals as goal

pub returns-in-Some : goal.returns-in-Some
returns-in-Some c =
    let cut = c.in-Some.ensures in
    c.is_same.ensures
    ∙ ap (is_expected c.args.expected.now) (sym (leftmost-cut c.args.path.now _ _ cut.0 cut.1))

pub returns-in-None : goal.returns-in-None
returns-in-None c =
    ap (is_expected c.args.expected.now) (sym (leftmost-last c.args.path.now c.in-None.ensures))
