use Rattle.std.proofs.Common.{map}
use Rattle.std.specs.Map.Iter.{deref}
use Rattle.id_history.specs.Counts.{Numbers}
use Rattle.id_history.proofs.CountLemmas.{number_of}
use Rattle.id_history.proofs.claims.Shard.counts.Given as goal

-- the counts so far are those of the entries so far
abbrev pub invariant-loop-entry : goal.invariant-loop-entry
invariant-loop-entry l = Numbers l.counts (number_of (map deref l.yielded))
