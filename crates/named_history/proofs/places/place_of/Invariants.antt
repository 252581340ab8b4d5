use Rattle.std.proofs.Common.{◌≡◌, drop}
use Rattle.named_history.specs.Places.{place_of}
use Rattle.named_history.proofs.PlaceLemmas.{place_from}
use Rattle.named_history.proofs.places.place_of.Given as goal

-- the name is at no place so far
abbrev pub invariant-loop-place : goal.invariant-loop-place
invariant-loop-place l =
    place_from l.place l.name (drop l.place l.names) ≡ place_of l.name l.names
