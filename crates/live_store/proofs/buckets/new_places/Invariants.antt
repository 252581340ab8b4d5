use Rattle.std.proofs.Common.{◌≡◌, ◌≤◌, length}
use Rattle.std.specs.Prelude.{vec_capacity}
use Rattle.live_store.proofs.buckets.new_places.Given as goal

-- as many places as were counted, and room for all
abbrev pub invariant-loop : goal.invariant-loop
invariant-loop g l = record {
  count : length l.places.items ≡ l.counter;
  room : l.fn.count ≤ vec_capacity l.places;
}
