use Rattle.std.proofs.Common.{◌≡◌, ◌++◌, map, length}
use Rattle.std.specs.List.{AllByRecursion, flat_map}
use Rattle.relay_log.specs.Journal.{IsEntry, entry_octets}
use Rattle.relay_log.specs.Views.{entry_view}
use Rattle.id_history.proofs.Fields.{IsBytes}
use Rattle.relay_log.proofs.reading.entries.Given as goal

-- the octets are those of the entries so far, and what is left
abbrev pub invariant-loop-all : goal.invariant-loop-all
invariant-loop-all l = record {
  octets : l.bytes ≡ flat_map entry_octets (map entry_view l.all.items) ++ l.rest;
  entries : AllByRecursion IsEntry (map entry_view l.all.items);
  are_octets : IsBytes l.rest;
}

-- fewer octets are left
abbrev pub decreases-loop-all : goal.decreases-loop-all
decreases-loop-all l = length l.rest
