use Rattle.std.proofs.Common.{◌≡◌, ◌≤◌, length, map, take}
use Rattle.std.specs.Prelude.{vec_capacity}
use Rattle.relay_live.specs.PeerServers.{kept_of}
use Rattle.relay_live.proofs.running.counted_of.Given as goal

-- the lists of the ends so far
abbrev pub invariant-loop-end : goal.invariant-loop-end
invariant-loop-end g l = record {
  room : length l.ends ≤ vec_capacity l.answers;
  long : length l.answers.items ≡ l.end-index;
  finished : map (λ a. a.now) l.answers.items ≡ map kept_of (take l.end-index l.ends);
}
