use Rattle.std.proofs.Common.{◌<◌, arith, length}
use Rattle.relay_explain.specs.Buffers.{member_text}
use Rattle.relay_explain.proofs.Puts.{nothing, two}
use Rattle.relay_explain.proofs.Told.{told_each, told_next}
use Rattle.relay_explain.proofs.groups.put_members.Goals as goal

pub loop-number-init : goal.loop-number-init
loop-number-init c = nothing _

pub loop-number-preserved : goal.loop-number-preserved
loop-number-preserved c =
    let there : c.loop-number.number-index < length c.args.numbers.now =
    omega (arith, c.loop-number-test.true) in
    told_next (member_text c.args.buffers.now) c.args.numbers.now c.loop-number.number-index
    0 there c.loop-number.invariant
    (rw (← c.buffer_name.ensures) (two c.add.ensures c.add-text.ensures))

pub returns : goal.returns
returns c =
    told_each (member_text c.args.buffers.now) c.args.numbers.now c.loop-number.number-index
    (omega (arith, c.loop-number-test.false)) c.loop-number.invariant
