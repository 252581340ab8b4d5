use Rattle.std.proofs.Common.{◌≡◌, ◌++◌, map, vec_capacity}
use Rattle.std.specs.List.{AllByRecursion, flat_map}
use Rattle.std.specs.Map.Iter.{deref_pair}
use Rattle.id_history.specs.History.{IdFits}
use Rattle.id_history.specs.Views.{id_view}
use Rattle.id_history.specs.LastingIn.{kept_of}
use Rattle.id_history.proofs.claims.Shard.append.Given as goal

-- what is left of the entries so far is behind the list, in the room that it had, and fits
abbrev pub invariant-loop-text : goal.invariant-loop-text
invariant-loop-text l =
    (map id_view l.list.items
    ≡ map id_view l.initial.list.items ++ flat_map kept_of (map deref_pair l.yielded))
    × (vec_capacity l.list ≡ vec_capacity l.initial.list)
    × (AllByRecursion IdFits (map id_view l.initial.list.items)
    → AllByRecursion IdFits (map id_view l.list.items))
