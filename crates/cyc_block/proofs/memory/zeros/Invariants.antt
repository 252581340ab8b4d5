use Rattle.std.proofs.Common.{◌≡◌}
use Rattle.cyc_block.specs.Store.{empty_blocks}
use Rattle.cyc_block.proofs.memory.zeros.Given as goal

-- the blocks so far hold zeros
abbrev pub invariant-loop-block : goal.invariant-loop-block
invariant-loop-block l = l.blocks.items ≡ empty_blocks l._block
