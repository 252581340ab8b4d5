-- storage.conf: its entries as the definitions of classes have them.
use Rattle.news_terms.specs.StorageClass.{Entry}
use Rattle.relay_conf.specs.declared.settings.StorageEntry.{StorageEntry}

-- an entry as the choice of a class takes it (docs/FORMATS.md, Configuration)
abbrev pub entry_view : StorageEntry → Entry
entry_view storage_entry =
    record {
      smallest = storage_entry.smallest;
      largest = storage_entry.largest;
      newsgroups = storage_entry.newsgroups;
      exactmatch = storage_entry.exactmatch;
      class = storage_entry.class;
      group = storage_entry.group;
    }
