use Rattle.cyc_buffer.proofs.CrashSteps.{left_written}
use Rattle.cyc_buffer.proofs.crash_laws.writes_leave.Goals as goal

pub returns : goal.returns
returns c = λ h kept blocks written o k left newest unfinished ends count piece others apart.
    left_written c.one_block.ensures h kept blocks written left o k newest unfinished ends count
    piece others apart
