use Rattle.std.proofs.Common.{◌≡◌, take}
use Rattle.feed_queue.proofs.rings.Ring.resume.Given as goal

-- the tokens so far are in the ring, which has its size
abbrev pub invariant-loop-token : goal.invariant-loop-token
invariant-loop-token l = record {
  room : l.tokens.capacity ≡ l.size;
  items : l.tokens.items ≡ take l.token-index l.kept.waiting.items;
}
