use Rattle.std.proofs.Common.{◌≡◌, map, drop}
use Rattle.news_terms.specs.StorageClass as terms
use Rattle.relay_conf.specs.Storage.{entry_view}
use Rattle.relay_conf.specs.Choice.{octets_of, takes_rest}
use Rattle.relay_conf.proofs.choice.takes_groups.Given as goal

abbrev pub invariant-loop-group : goal.invariant-loop-group
invariant-loop-group l =
    terms.takes_groups (entry_view l.storage_entry) (map octets_of l.groups)
    ≡ takes_rest (entry_view l.storage_entry) l.has_match
    (map octets_of (drop l.group-index l.groups))
