use Rattle.std.proofs.Common.{◌≡◌, drop, map}
use Rattle.named_history.specs.Naming.{name_of}
use Rattle.named_history.specs.Places.{place_of}
use Rattle.named_history.proofs.PlaceLemmas.{place_from}
use Rattle.relay_names.specs.Views.{group_view}
use Rattle.named_history.proofs.groups.group_place.Given as goal

-- no group so far has the name
abbrev pub invariant-loop-place : goal.invariant-loop-place
invariant-loop-place l =
    place_from l.place l.name (map name_of (map group_view (drop l.place l.groups)))
    ≡ place_of l.name (map name_of (map group_view l.groups))
