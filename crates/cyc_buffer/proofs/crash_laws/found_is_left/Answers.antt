use Rattle.cyc_buffer.proofs.CrashLaws.{tells_left}
use Rattle.cyc_buffer.proofs.crash_laws.found_is_left.Goals as goal

pub returns : goal.returns
returns c = tells_left
