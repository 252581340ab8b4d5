use Rattle.cyc_buffer.proofs.CrashSteps.{left_finish}
use Rattle.cyc_buffer.proofs.crash_laws.finishes_leave.Goals as goal

pub returns : goal.returns
returns c = λ buffer b earlier writing kept later blocks o article none left newest there class
    octets text ends still.
    left_finish c.one_block.ensures buffer b earlier writing kept later blocks none left o article
    newest there class octets text ends still
