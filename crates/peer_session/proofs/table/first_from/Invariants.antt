use Rattle.std.proofs.Common.{◌≡◌, ℕ, ◌<◌, ◌≤◌, ◌-◌, length, get_or, None}
use Rattle.peer_session.specs.Places.{ids_of}
use Rattle.peer_session.proofs.table.first_from.Given as goal

abbrev pub invariant-loop-first : goal.invariant-loop-first
invariant-loop-first l = record {
  within : l.first ≤ length l.offers;
  before : (j : ℕ) → j < l.first → get_or (ids_of l.offers) j None ≡ None;
}

abbrev pub decreases-loop-first : goal.decreases-loop-first
decreases-loop-first l = length l.offers - l.first
