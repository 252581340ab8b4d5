use Rattle.cyc_buffer.proofs.CrashSteps.{left_unused}
use Rattle.cyc_buffer.proofs.crash_laws.formats_leave.Goals as goal

pub returns : goal.returns
returns c = left_unused
