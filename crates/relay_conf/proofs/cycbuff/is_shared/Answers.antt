use Rattle.std.proofs.Common.{◌∙◌, sym, map}
use Rattle.relay_conf.specs.Places.{group_view}
use Rattle.relay_conf.proofs.Numbered.{shared_step}
use Rattle.relay_conf.proofs.cycbuff.is_shared.Goals as goal

pub loop-index-preserved : goal.loop-index-preserved
loop-index-preserved c =
    c.loop-index.invariant
    ∙ shared_step (map group_view c.args.groups.now) c.args.numbers.now c.loop-index.index
    c.loop-index-test.true (sym c.is_listed.ensures ∙ c.if-is_listed.false)
    (sym c.contains.ensures.value ∙ c.if-contains.false)
