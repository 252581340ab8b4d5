use Rattle.std.proofs.Common.{◌≡◌, drop, map}
use Rattle.news_terms.specs.StorageClass.{chosen_entry}
use Rattle.relay_conf.specs.Choice.{octets_of}
use Rattle.relay_conf.specs.Storage.{entry_view}
use Rattle.relay_conf.proofs.choice.choose.Given as goal

-- no entry so far takes it
abbrev pub invariant-loop-storage_entry : goal.invariant-loop-storage_entry
invariant-loop-storage_entry l =
    chosen_entry (map entry_view (drop l.storage_entry-index l.storage_entries))
    (map octets_of l.groups) l.size
    ≡ chosen_entry (map entry_view l.storage_entries) (map octets_of l.groups) l.size
