-- What the lines of each file have.
use Rattle.std.specs.Prelude.{ℕ, List, ◌⊎◌}
use Rattle.news_terms.specs.StorageClass.{Entry}
use Rattle.relay_conf.specs.declared.faults.LineFault.{LineFault}
use Rattle.relay_conf.specs.Cycbuff.{Group}
use Rattle.relay_conf.specs.Relay.{RelaySettings}
use Rattle.relay_conf.specs.RelayViews as relay
use Rattle.relay_conf.specs.StorageViews as storage

-- the lines of relay.conf have settings or a fault (docs/FORMATS.md, Configuration)
abbrev pub RelayHasReading : (lines : List (List ℕ)) → Type 0
RelayHasReading lines =
    ((settings : RelaySettings) × relay.HasSettings lines settings)
    ⊎ ((fault : LineFault) × relay.HasFault lines fault)

-- the lines of storage.conf, over these groups, have entries or a fault (docs/FORMATS.md,
-- Configuration)
abbrev pub StorageHasReading : (groups : List Group) (lines : List (List ℕ)) → Type 0
StorageHasReading groups lines =
    ((entries : List Entry) × storage.HasEntries groups lines entries)
    ⊎ ((fault : LineFault) × storage.HasFault groups lines fault)
