use Rattle.std.proofs.Common.{◌≡◌, ◌+◌, ◌∷◌, ◌++◌, [], ℕ, Option, List, All, length, map}
use Rattle.std.specs.Prelude.{replicate}
use Rattle.live_wire.specs.Ports.{callers_of, left_of}
use Rattle.relay_conf.specs.declared.reach.Allow.{Allow}
use Rattle.relay_ports.specs.Callers.{HasCallers, LetsIn}
use Rattle.relay_ports.proofs.ports.add_further.Given as goal

-- with the last one there are as many peer sources of the peer as the loop has counted
abbrev pub invariant-loop : goal.invariant-loop
invariant-loop l = record {
  peers : map (λ peer_source. peer_source.peer) l.peer_sources.items ++ l.number ∷ []
      ≡ map (λ peer_source. peer_source.peer) l.initial.peer_sources.items
      ++ replicate l.counter l.number;
  count : length l.peer_sources.items + 1 ≡ length l.initial.peer_sources.items + l.counter;
  left : (left : Option ℕ) → left_of l.last ≡ left
      → All (λ peer_source. left_of peer_source.connections ≡ left) l.initial.peer_sources.items
      → All (λ peer_source. left_of peer_source.connections ≡ left) l.peer_sources.items;
  callers : (allows : List Allow) → LetsIn allows l.number (callers_of l.last)
      → All (HasCallers allows) l.initial.peer_sources.items
      → All (HasCallers allows) l.peer_sources.items;
}
