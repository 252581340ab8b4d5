use Rattle.std.proofs.Common.{All, take}
use Rattle.relay_adding.proofs.flushing.flush_each.Given as goal

-- the devices of those so far have what was written
abbrev pub invariant-loop-place : goal.invariant-loop-place
invariant-loop-place g l = All g.S.Flush.flushed (take l.place l.stores)
