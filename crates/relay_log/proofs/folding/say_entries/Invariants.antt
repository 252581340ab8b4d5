use Rattle.std.proofs.Common.{◌≡◌, ◌++◌, List, map, vec_len}
use Rattle.relay_log.specs.declared.journal.Entry.{Entry}
use Rattle.relay_log.specs.Folding.{all_told}
use Rattle.relay_log.specs.Knowing.{KnowsBefore}
use Rattle.relay_log.specs.Views.{entry_view}
use Rattle.relay_log.proofs.folding.say_entries.Given as goal

-- what comes behind what is left was said
abbrev pub invariant-loop-entry : goal.invariant-loop-entry
invariant-loop-entry l =
    (done : List Entry) × (l.fn.entries.items ≡ l.left.items ++ done)
    × KnowsBefore l.fn.shards l.shards (all_told l.buffers (map entry_view done))

abbrev pub decreases-loop-entry : goal.decreases-loop-entry
decreases-loop-entry l = vec_len l.left
