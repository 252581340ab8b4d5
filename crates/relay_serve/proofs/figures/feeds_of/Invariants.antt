use Rattle.std.proofs.Common.{◌≡◌, ◌≤◌, length, map, take}
use Rattle.std.specs.Prelude.{slice_get, vec_capacity}
use Rattle.relay_report.specs.Figures.{name_of}
use Rattle.relay_serve.proofs.figures.feeds_of.Given as goal

-- the feeds so far, and room for the others
abbrev pub invariant-loop-number : goal.invariant-loop-number
invariant-loop-number g l = record {
  room : length l.config.relay.feeds.items ≤ vec_capacity l.named;
  count : length l.named.items ≡ l.number;
  names : map (λ one. one.peer) l.named.items
      ≡ map (λ feed. name_of (slice_get l.config.relay.peers.items feed.peer))
      (take l.number l.config.relay.feeds.items);
}
