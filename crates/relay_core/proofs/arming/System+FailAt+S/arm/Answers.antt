use Rattle.std.proofs.Common.{true}
use Rattle.block_shelf.specs.Leaving.{honestly, plain}
use Rattle.relay_core.proofs.Left.{still_agrees}
use Rattle.relay_core.specs.Openings.{openings}
use Rattle.relay_core.proofs.arming.System+FailAt+S.arm.Goals as goal

-- the buffer set keeps what it kept, and every other part is the same
pub returns-clause-agrees : goal.returns-clause-agrees
returns-clause-agrees g c = λ trusted x agrees.
    still_agrees c.args.self.now c.arm.new.self x agrees
    (c.arm.ensures.kept (plain trusted) _ x.state.begun x.state.kept (openings x.work.writer)
    x.work.failures agrees.core.buffer_set)

pub returns-clause-leaves : goal.returns-clause-leaves
returns-clause-leaves g c = λ x agrees.
    still_agrees c.args.self.now c.arm.new.self x agrees
    (c.arm.ensures.kept (honestly true) _ x.state.begun x.state.kept (openings x.work.writer)
    x.work.failures agrees.core.buffer_set)
