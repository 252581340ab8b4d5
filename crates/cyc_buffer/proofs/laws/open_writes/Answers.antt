-- What a history says of its open write is so of a buffer that agrees with it.
use Rattle.cyc_buffer.proofs.OpenLemmas.{is_open, can_write, can_finish}
use Rattle.cyc_buffer.proofs.laws.open_writes.Goals as goal

pub returns-clause-is : goal.returns-clause-is
returns-clause-is g c = is_open c.args.buffer.now c.args.write.now

pub returns-clause-can_write : goal.returns-clause-can_write
returns-clause-can_write g c = can_write c.args.buffer.now c.args.write.now

pub returns-clause-can_finish : goal.returns-clause-can_finish
returns-clause-can_finish g c = can_finish c.args.buffer.now c.args.write.now
