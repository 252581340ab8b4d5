use Rattle.std.proofs.Common.{◌≡◌, ◌≤◌, None, replicate}
use Rattle.std.specs.Prelude.{vec_capacity}
use Rattle.live_store.proofs.figures.no_numbers.Given as goal

-- as many blocks as were gone over have no number, and there is room for all
abbrev pub invariant-loop : goal.invariant-loop
invariant-loop l = record {
  none : l.numbers.items ≡ replicate l.counter None;
  room : l.fn.blocks ≤ vec_capacity l.numbers;
}
