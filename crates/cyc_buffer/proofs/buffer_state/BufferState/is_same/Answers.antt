-- Registers that agree with a history say the same.
use Rattle.cyc_buffer.proofs.SameBufferState.{no_other}
use Rattle.cyc_buffer.proofs.buffer_state.BufferState.is_same.Goals as goal

pub returns-clause-other : goal.returns-clause-other
returns-clause-other c differs h keeps other =
    no_other c.args.self.now c.args.other.now h keeps other (c.are_same.ensures.other differs)
