use Rattle.std.proofs.Common.{[], ◌<◌, arith, length}
use Rattle.relay_explain.proofs.Joined.{put_more}
use Rattle.relay_explain.proofs.Puts.{nothing}
use Rattle.relay_explain.proofs.text.put.Goals as goal

pub loop-part-init : goal.loop-part-init
loop-part-init c = nothing _

pub loop-part-preserved : goal.loop-part-preserved
loop-part-preserved c =
    let there : c.loop-part.part-index < length c.args.parts.now =
    omega (arith, c.loop-part-test.true) in
    put_more c.args.parts.now c.loop-part.part-index (record { ref_ptr = (0, 0); now = [] }) there
    c.loop-part.invariant c.add-text.ensures
