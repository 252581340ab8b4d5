use Rattle.cyc_buffer.specs.Reads.{StaysHeld}
use Rattle.first_start.proofs.Bare.{UnmarkedBefore}
use Rattle.first_start.proofs.completing.lacks_marks.Given as goal

-- the head blocks so far, but head block 0, have zeros alone, and the store holds what it held
abbrev pub invariant-loop-k : goal.invariant-loop-k
invariant-loop-k g l = record {
  held : StaysHeld g.S.BlockStore l.fn.store l.store;
  marks : g.S.BlockStore.honest l.fn.store → UnmarkedBefore g.S.BlockStore l.fn.store l.k;
}
