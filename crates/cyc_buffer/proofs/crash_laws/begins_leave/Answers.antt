use Rattle.cyc_buffer.proofs.CrashSteps.{left_begin}
use Rattle.cyc_buffer.proofs.crash_laws.begins_leave.Goals as goal

pub returns : goal.returns
returns c = λ h kept later blocks class octets fresh left sized still.
    left_begin h kept blocks left sized class octets fresh later still
