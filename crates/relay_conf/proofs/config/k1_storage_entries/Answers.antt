use Rattle.relay_conf.specs.Settings.{buffers_view}
use Rattle.relay_conf.proofs.BuiltIn.{entries_are_read}
use Rattle.relay_conf.proofs.SoundStorage.{storage_entries_go_if}
use Rattle.relay_conf.proofs.config.k1_storage_entries.Goals as goal

pub returns-clause-gives : goal.returns-clause-gives
returns-clause-gives c =
    (entries_are_read c.read_storage.result (buffers_view c.args.buffers.now) c.requires
    c.read_storage.ensures).gives

pub returns-clause-memory : goal.returns-clause-memory
returns-clause-memory c =
    (entries_are_read c.read_storage.result (buffers_view c.args.buffers.now) c.requires
    c.read_storage.ensures).memory

pub returns-clause-grouped : goal.returns-clause-grouped
returns-clause-grouped c =
    storage_entries_go_if c.args.buffers.now c.read_storage.result _ c.read_storage.ensures
