use Rattle.std.proofs.Common.{◌≡◌, length}
use Rattle.relay_drill.specs.Crashing.{HoldSame}
use Rattle.relay_drill.proofs.Stores.{seen}
use Rattle.relay_drill.proofs.reviving.take_back.Given as goal

-- the blocks of each store are what they were
abbrev pub invariant-loop-place : goal.invariant-loop-place
invariant-loop-place l = HoldSame seen l.fn.stores l.stores
