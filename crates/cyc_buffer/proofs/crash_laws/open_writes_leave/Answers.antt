use Rattle.cyc_buffer.proofs.CrashWrites.{left_writing}
use Rattle.cyc_buffer.proofs.crash_laws.open_writes_leave.Goals as goal

pub returns : goal.returns
returns c = left_writing
