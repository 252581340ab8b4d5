use Rattle.relay_conf.proofs.BuiltIn.{buffers_are_read}
use Rattle.relay_conf.proofs.config.k1_buffers.Goals as goal

pub returns-clause-gives : goal.returns-clause-gives
returns-clause-gives c = (buffers_are_read c.read_cycbuff.result c.read_cycbuff.ensures).gives

pub returns-clause-memory : goal.returns-clause-memory
returns-clause-memory c = (buffers_are_read c.read_cycbuff.result c.read_cycbuff.ensures).memory
