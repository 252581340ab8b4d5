use Rattle.std.proofs.Common.{length, map}
use Rattle.uwild.specs.Expression.{item_view}
use Rattle.uwild.specs.Reads.{AreItemsTo}
use Rattle.uwild.proofs.pattern.read_items.Given as goal

abbrev pub invariant-loop-items : goal.invariant-loop-items
invariant-loop-items l = AreItemsTo l.text (map item_view l.items.items) l.rest

abbrev pub decreases-loop-items : goal.decreases-loop-items
decreases-loop-items l = length l.rest
