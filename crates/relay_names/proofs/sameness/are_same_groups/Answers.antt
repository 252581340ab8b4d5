use Rattle.std.proofs.Common.{arith}
use Rattle.relay_names.specs.Views.{group_view}
use Rattle.relay_names.proofs.OneMore.{differ_at}
use Rattle.relay_names.proofs.sameness.are_same_groups.Goals as goal

pub returns-then-not-is_same_group : goal.returns-then-not-is_same_group
returns-then-not-is_same_group c =
    differ_at group_view c.args.a.now c.args.b.now c.loop-i.i c.index-a-i.result c.index-b-i.result
    c.is_same_group.result c.loop-i-test.true (omega (arith, c.if-a-b.false)) c.index-a-i.is
    c.index-b-i.is c.is_same_group.ensures
    c.if-not-is_same_group.true
