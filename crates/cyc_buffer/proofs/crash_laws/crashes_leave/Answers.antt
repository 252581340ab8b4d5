use Rattle.cyc_buffer.proofs.CrashLaws.{crash_left}
use Rattle.cyc_buffer.proofs.crash_laws.crashes_leave.Goals as goal

pub returns : goal.returns
returns c = crash_left
