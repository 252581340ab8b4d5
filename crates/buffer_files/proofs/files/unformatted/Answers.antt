use Rattle.std.proofs.Common.{Some}
use Rattle.block_shelf.proofs.Shelving.{read_there}
use Rattle.buffer_files.proofs.FileFaults.{fault_of_number}
use Rattle.buffer_files.proofs.Rows.{read_at}
use Rattle.buffer_files.proofs.files.unformatted.Goals as goal

-- the fault is of the buffer that is there
pub returns-in-Some : goal.returns-in-Some
returns-in-Some c =
    let there = read_at c.deref.result.now c.args.settings.now.buffers.items c.from.result
    c.args.number (Some c.in-Some.buffer.now) c.deref.ensures.value c.from.ensures
    (read_there c.deref.result.now c.from.result c.in-Some.ensures.lookup) in
    fault_of_number c.args.settings.now c.args.number c.in-Some.buffer.now c.unusable.result there
    c.unusable.ensures.name
