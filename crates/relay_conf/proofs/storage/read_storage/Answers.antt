use Rattle.std.proofs.Common.{map}
use Rattle.std.specs.Global.{Vec}
use Rattle.relay_conf.specs.Lines.{lines_of}
use Rattle.relay_conf.specs.Settings.{buffers_view}
use Rattle.relay_conf.specs.Storage.{entry_view}
use Rattle.relay_conf.specs.StorageDraft.{IsDraftOf}
use Rattle.relay_conf.specs.StorageFile.{LineSays, early_fault, storage_said}
use Rattle.relay_conf.specs.declared.settings.StorageEntry.{StorageEntry}
use Rattle.relay_conf.proofs.LinesRead.{draft_fails}
use Rattle.relay_conf.proofs.StorageReadings.{no_draft, storage_gives}
use Rattle.relay_conf.proofs.storage.read_storage.Goals as goal

pub returns-in_err-draft : goal.returns-in_err-draft
returns-in_err-draft c =
    let groups = (buffers_view c.args.buffers.now).groups in
    draft_fails (λ (storage_entries : Vec StorageEntry). map entry_view storage_entries.items)
    LineSays (early_fault groups) (IsDraftOf groups) (storage_said groups)
    (lines_of c.args.text.now) c.from_residual.result c.in_err-draft.field-0.0
    c.from_residual.ensures.1
    (c.in_err-draft.ensures (no_draft groups c.new.result c.new.ensures))

pub returns : goal.returns
returns c =
    let groups = (buffers_view c.args.buffers.now).groups in
    storage_gives groups (lines_of c.args.text.now) _ c.finished.result
    (c.in_ok-draft.ensures (no_draft groups c.new.result c.new.ensures)) c.finished.ensures
