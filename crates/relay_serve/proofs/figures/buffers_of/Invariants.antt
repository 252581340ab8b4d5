use Rattle.std.proofs.Common.{◌≡◌, ◌≤◌, length, map, take}
use Rattle.std.specs.Prelude.{vec_capacity}
use Rattle.relay_serve.proofs.figures.buffers_of.Given as goal

-- the buffers so far, and room for the others
abbrev pub invariant-loop-number : goal.invariant-loop-number
invariant-loop-number g l = record {
  room : length l.config.buffers.buffers.items ≤ vec_capacity l.named;
  count : length l.named.items ≡ l.number;
  names : map (λ one. one.name) l.named.items
      ≡ map (λ buffer. buffer.name) (take l.number l.config.buffers.buffers.items);
}
