use Rattle.std.proofs.Common.{All, ℕ}
use Rattle.cyc_buffer.specs.Reads.{StaysHeld}
use Rattle.first_start.specs.Completing.{IsUnmarked, IsZero}
use Rattle.first_start.proofs.Bare.{Before}
use Rattle.first_start.proofs.Walked.{Walked}
use Rattle.first_start.proofs.completing.lack_blocks.Given as goal

-- the blocks of the stores so far have zeros alone, and so has the bitmap of each; each store holds
-- what it held
abbrev pub invariant-loop-place : goal.invariant-loop-place
invariant-loop-place g l = record {
  walked : Walked (λ (b : ℕ). StaysHeld g.S.BlockStore) l.fn.stores l.stores l.place;
  zeros : Before g.S.BlockStore (λ (b : ℕ) (store : _). All IsZero (g.S.BlockStore.blocks store))
      l.fn.stores l.place;
  marks : Before g.S.BlockStore (λ (b : ℕ). IsUnmarked g.S.BlockStore) l.fn.stores l.place;
}
