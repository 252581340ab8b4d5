use Rattle.std.proofs.Common.{◌≡◌, length, map}
use Rattle.news_terms.specs.Pattern.{verdict}
use Rattle.uwild.specs.Expression.{pattern_view}
use Rattle.uwild.proofs.expression.Expr.judge.Given as goal

-- those that are left decide
abbrev pub invariant-loop-last : goal.invariant-loop-last
invariant-loop-last l = verdict (map pattern_view l.left) l.name ≡ verdict l.self l.name

abbrev pub decreases-loop-last : goal.decreases-loop-last
decreases-loop-last l = length l.left
