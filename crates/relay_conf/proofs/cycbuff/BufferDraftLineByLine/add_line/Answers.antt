use Rattle.relay_conf.proofs.CycbuffReadings.{buffers_step}
use Rattle.relay_conf.proofs.cycbuff.BufferDraftLineByLine.add_line.Goals as goal

pub returns : goal.returns
returns c = λ said number has.
    buffers_step c.args.line.now c.args.self.now _ c.add_line.result c.add_line.ensures.fault
    c.add_line.ensures.buffers c.add_line.ensures.names said has
