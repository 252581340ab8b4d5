use Rattle.std.proofs.Common.{◌≡◌, drop}
use Rattle.named_history.specs.Places.{first_place}
use Rattle.named_history.proofs.places.first_place.Given as goal

-- no name so far is in the list
abbrev pub invariant-loop-name : goal.invariant-loop-name
invariant-loop-name l = first_place (drop l.name-index l.names) l.list ≡ first_place l.names l.list
