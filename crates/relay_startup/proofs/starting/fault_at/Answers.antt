use Rattle.std.proofs.Common.{Option, Some, subst, sym}
use Rattle.block_shelf.proofs.Shelving.{read_there}
use Rattle.relay_conf.specs.declared.cycbuff.BufferConf.{BufferConf}
use Rattle.relay_startup.specs.Starting.{IsFaultOfBuffer}
use Rattle.buffer_files.proofs.Rows.{read_at}
use Rattle.relay_startup.proofs.starting.fault_at.Goals as goal

-- the fault is of the buffer that is there
pub returns-in-Some : goal.returns-in-Some
returns-in-Some c =
    let there = read_at c.deref.result.now c.args.settings.now.buffers.items c.from.result
    c.args.number (Some c.in-Some.buffer.now) c.deref.ensures.value c.from.ensures
    (read_there c.deref.result.now c.from.result c.in-Some.ensures.lookup) in
    subst (λ (one : Option BufferConf). IsFaultOfBuffer one c.args.fault c.fault_of.result)
    (sym there) c.fault_of.ensures
