use Rattle.std.proofs.lemmas.Result.{err_from_is_err_and}
use Rattle.buffer_files.proofs.FileFaults.{fault_at}
use Rattle.buffer_files.proofs.files.hold_files.Goals as goal

-- the fault of a file is told,
pub returns-in_err-file-clause-fault : goal.returns-in_err-file-clause-fault
returns-in_err-file-clause-fault g c =
    let gone = c.from_residual-in_err-file in
    let told = err_from_is_err_and gone.result gone.ensures.1 in
    rw (told.1, told.2)
    (fault_at c.args.settings.now c.deref-buffer-items.result.now c.loop-buffer.buffer-index
    c.buffer-item.result c.in_err-file.field-0.0 c.deref-buffer-items.ensures.value
    c.loop-buffer-test.true c.buffer-item.is c.in_err-file.ensures.fault)
