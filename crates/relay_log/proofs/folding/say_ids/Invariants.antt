use Rattle.std.proofs.Common.{◌≡◌, ◌++◌, List, map, vec_len}
use Rattle.id_history.specs.declared.kept.KeptId.{KeptId}
use Rattle.id_history.specs.Views.{id_view}
use Rattle.relay_log.specs.Knowing.{KnowsBefore}
use Rattle.relay_log.proofs.folding.say_ids.Given as goal

-- what comes behind what is left was said
abbrev pub invariant-loop-one : goal.invariant-loop-one
invariant-loop-one l =
    (done : List KeptId) × (l.fn.ids.items ≡ l.left.items ++ done)
    × KnowsBefore l.fn.shards l.shards (map id_view done)

abbrev pub decreases-loop-one : goal.decreases-loop-one
decreases-loop-one l = vec_len l.left
