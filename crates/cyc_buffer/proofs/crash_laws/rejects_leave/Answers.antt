use Rattle.cyc_buffer.proofs.RejectLaws.{left_without}
use Rattle.cyc_buffer.proofs.crash_laws.rejects_leave.Goals as goal

pub returns : goal.returns
returns c = left_without
