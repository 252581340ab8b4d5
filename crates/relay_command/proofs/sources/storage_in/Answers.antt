use Rattle.std.proofs.Common.{subst}
use Rattle.relay_conf.specs.Lines.{lines_of}
use Rattle.relay_command.specs.Check.{StorageReads}
use Rattle.relay_command.proofs.TextsRead.{gives_both}
use Rattle.relay_command.proofs.sources.storage_in.Goals as goal

pub returns : goal.returns
returns g c =
    gives_both c.args.folder.now _ (StorageReads c.args.buffers.now) c.in_ok-text.text _ _
    c.in_ok-text.ensures
    (subst (λ text. StorageReads c.args.buffers.now c.read_storage-read.result (lines_of text))
    c.deref.ensures.value c.read_storage-read.ensures)
    c.both.ensures
