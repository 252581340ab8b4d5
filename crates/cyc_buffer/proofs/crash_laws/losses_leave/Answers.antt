use Rattle.cyc_buffer.proofs.CrashLosses.{left_lost}
use Rattle.cyc_buffer.proofs.crash_laws.losses_leave.Goals as goal

pub returns : goal.returns
returns c = λ h later kept safe_now safe blocks left loss live there.
    left_lost c.one_block.ensures h kept safe left later blocks loss safe_now live there
