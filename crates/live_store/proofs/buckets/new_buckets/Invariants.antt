use Rattle.std.proofs.Common.{◌≤◌, []}
use Rattle.std.specs.Prelude.{vec_capacity}
use Rattle.boxcar.specs.Table.{Tagged}
use Rattle.live_store.proofs.buckets.new_buckets.Given as goal

-- so many buckets, each tagged with its number, and room for all
abbrev pub invariant-loop-number : goal.invariant-loop-number
invariant-loop-number g l = record {
  tagged : Tagged [] 0 l.number-counter l.buckets.items;
  room : 864 ≤ vec_capacity l.buckets;
}
