use Rattle.std.proofs.Common.{length, map}
use Rattle.uwild.specs.Expression.{item_view}
use Rattle.uwild.specs.Walks.{IsWalk, steps_left}
use Rattle.uwild.proofs.matching.matches.Given as goal

abbrev pub invariant-loop-rest : goal.invariant-loop-rest
invariant-loop-rest l = IsWalk (map item_view l.items) l.name l.star l.at

abbrev pub decreases-loop-rest : goal.decreases-loop-rest
decreases-loop-rest l = steps_left (length (map item_view l.items)) (length l.name) l.star l.at
