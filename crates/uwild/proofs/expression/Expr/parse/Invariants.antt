use Rattle.std.proofs.Common.{length, map}
use Rattle.uwild.specs.Expression.{pattern_view}
use Rattle.uwild.specs.Reads.{ArePatternsTo}
use Rattle.uwild.proofs.expression.Expr.parse.Given as goal

abbrev pub invariant-loop-patterns : goal.invariant-loop-patterns
invariant-loop-patterns l = ArePatternsTo l.text (map pattern_view l.patterns.items) l.rest

abbrev pub decreases-loop-patterns : goal.decreases-loop-patterns
decreases-loop-patterns l = length l.rest
