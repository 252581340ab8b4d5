use Rattle.std.proofs.Common.{All, take}
use Rattle.cyc_buffer.specs.Reads.{StaysHeld}
use Rattle.first_start.specs.Completing.{IsZero}
use Rattle.first_start.proofs.completing.lacks_blocks.Given as goal

-- the blocks so far have zeros alone, and the store holds what it held
abbrev pub invariant-loop-k : goal.invariant-loop-k
invariant-loop-k g l = record {
  held : StaysHeld g.S.BlockStore l.fn.store l.store;
  zeros : g.S.BlockStore.honest l.fn.store
      → All IsZero (take l.k (g.S.BlockStore.blocks l.fn.store));
}
