use Rattle.std.proofs.Common.{◌≡◌, ℕ, ◌<◌, ◌≤◌, ◌+◌, length, get_or, None, Some}
use Rattle.peer_session.specs.Chains.{Leads}
use Rattle.peer_session.specs.Places.{ids_of}
use Rattle.peer_session.proofs.chains.Chains.find.Given as goal

abbrev pub invariant-loop-link : goal.invariant-loop-link
invariant-loop-link l = record {
  within : l.link ≤ length (ids_of l.offers);
  leads : Leads l.self l.bucket l.newer l.link;
  same : (n : ℕ) → l.link ≡ n + 1 → get_or l.self.buckets.items n 0 ≡ l.bucket;
  rest : (j : ℕ) → get_or (ids_of l.offers) j None ≡ Some l.id → j < l.link;
}

abbrev pub decreases-loop-link : goal.decreases-loop-link
decreases-loop-link l = l.link
