use Rattle.std.proofs.Common.{◌≡◌}
use Rattle.relay_drill.proofs.powered.write_back.Given as goal

-- no block is another than before
abbrev pub invariant-loop-head : goal.invariant-loop-head
invariant-loop-head l = l.store.blocks.items ≡ l.fn.store.blocks.items
