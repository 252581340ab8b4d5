use Rattle.std.proofs.Common.{◌∙◌, ◌<◌, ap, arith, get_or, length, map}
use Rattle.relay_explain.specs.Buffers.{group_text, groups_text}
use Rattle.relay_explain.proofs.Told.{told_each, told_next}
use Rattle.relay_explain.proofs.Puts.{nothing}
use Rattle.relay_explain.proofs.groups.put_groups.Goals as goal

pub loop-group-init : goal.loop-group-init
loop-group-init c = nothing _

pub loop-group-preserved : goal.loop-group-preserved
loop-group-preserved c =
    let same = c.deref-group-items.ensures.value in
    let there : c.loop-group.group-index < length c.args.config.now.buffers.groups.items =
    omega (arith, ap length same, c.loop-group-test.true) in
    let one = c.group-item.is
    ∙ ap (λ all. get_or all c.loop-group.group-index c.group-item.result) same in
    told_next (group_text c.args.config.now (map (λ line. line.now) c.args.lines.now))
    c.args.config.now.buffers.groups.items
    c.loop-group.group-index c.group-item.result there c.loop-group.invariant
    (rw (← one) c.put_group-text.ensures)

pub returns : goal.returns
unfolding groups_text
returns c =
    told_each (group_text c.args.config.now (map (λ line. line.now) c.args.lines.now))
    c.args.config.now.buffers.groups.items
    c.loop-group.group-index
    (omega (arith, ap length c.deref-group-items.ensures.value, c.loop-group-test.false))
    c.loop-group.invariant
