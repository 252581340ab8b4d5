use Rattle.std.proofs.Common.{subst, sym}
use Rattle.relay_conf.specs.Lines.{lines_of}
use Rattle.relay_conf.specs.RelayViews.{RelayGives}
use Rattle.relay_conf.specs.declared.settings.Buffers.{Buffers}
use Rattle.relay_conf.proofs.SoundStorage.{storage_entries_go}
use Rattle.relay_command.specs.Check.{CycbuffReads, StorageReads, in_storage, in_relay}
use Rattle.relay_command.specs.Sources.{SaysBy}
use Rattle.relay_command.specs.declared.load.ConfFile.TheVariants as files
use Rattle.relay_command.proofs.sources.load_both.Goals as goal

pub returns-in-Err-storage_in : goal.returns-in-Err-storage_in
returns-in-Err-storage_in g c =
    let both = c.in-Ok.both in
    in_storage both.0 (both.1.items, c.in-Ok.ensures.0, c.in-Ok.ensures.1)
    c.in-Err-storage_in.ensures

pub returns-in-Err-relay_in : goal.returns-in-Err-relay_in
returns-in-Err-relay_in g c =
    let both = c.in-Ok.both in
    let stored = c.in-Ok-storage_in.both in
    in_relay both.0 stored.0 (both.1.items, c.in-Ok.ensures.0, c.in-Ok.ensures.1)
    (stored.1.items, c.in-Ok-storage_in.ensures.0, c.in-Ok-storage_in.ensures.1)
    c.in-Err-relay_in.ensures

pub new-requires : goal.new-requires
new-requires g c =
    let both = c.in-Ok.both in
    let stored = c.in-Ok-storage_in.both in
    storage_entries_go both.0 stored.0 (lines_of stored.1.items) c.in-Ok-storage_in.ensures.1

pub returns-in-Ok-relay_in : goal.returns-in-Ok-relay_in
returns-in-Ok-relay_in g c =
    let folder = c.args.folder.now in
    let config = c.new.result in
    let both = c.in-Ok.both in
    let stored = c.in-Ok-storage_in.both in
    record {
      cycbuff = subst (λ b. SaysBy folder files.Cycbuff CycbuffReads b both.1.items)
          (sym c.new.ensures.buffers) c.in-Ok.ensures;
      storage = subst
          (λ (buffers : Buffers). SaysBy folder files.Storage (StorageReads buffers)
          config.storage_entries stored.1.items)
          (sym c.new.ensures.buffers)
          (subst (λ m. SaysBy folder files.Storage (StorageReads both.0) m stored.1.items)
          (sym c.new.ensures.storage_entries) c.in-Ok-storage_in.ensures);
      relay = subst (λ r. SaysBy folder files.Relay RelayGives r c.in-Ok-relay_in.relay.items)
          (sym c.new.ensures.relay) c.in-Ok-relay_in.ensures;
    }
