use Rattle.std.proofs.Common.{sym, ◌∙◌}
use Rattle.path_rules.proofs.PathCuts.{bang_cut, no_bang}
use Rattle.path_rules.proofs.pieces.first_piece.Goals as goal

pub returns-in-Some : goal.returns-in-Some
returns-in-Some c =
    bang_cut c.args.path.now c.in-Some.end (sym c.bang_place.ensures ∙ c.in-Some.is)

pub returns-in-None : goal.returns-in-None
returns-in-None c = no_bang c.args.path.now (sym c.bang_place.ensures ∙ c.in-None.is)
