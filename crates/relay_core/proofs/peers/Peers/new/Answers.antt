use Rattle.std.proofs.Common.{refl}
use Rattle.relay_core.specs.Peers.{peer_at, place_count}
use Rattle.relay_core.proofs.peers.Peers.new.Goals as goal

-- an empty map has no peer
pub returns-clause-none : goal.returns-clause-none
unfolding peer_at
returns-clause-none c = λ s. rw c.with_hasher.ensures.empty refl

-- it has no entry
pub returns-clause-count : goal.returns-clause-count
unfolding place_count
returns-clause-count c = c.with_hasher.ensures.len
