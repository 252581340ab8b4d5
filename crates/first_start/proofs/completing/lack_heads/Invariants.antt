use Rattle.std.proofs.Common.{ℕ}
use Rattle.std.specs.Prelude.{IsTrue}
use Rattle.cyc_buffer.specs.Reads.{StaysHeld}
use Rattle.first_start.specs.Completing.{HasNoneOrFirst, IsHeadMissing}
use Rattle.first_start.proofs.Bare.{Before}
use Rattle.first_start.proofs.Walked.{Walked}
use Rattle.first_start.proofs.completing.lack_heads.Given as goal

-- the stores so far have no head or their first one, one of them has none where that was seen, and
-- each store holds what it held
abbrev pub invariant-loop-place : goal.invariant-loop-place
invariant-loop-place g l = record {
  walked : Walked (λ (b : ℕ). StaysHeld g.S.BlockStore) l.fn.stores l.stores l.place;
  heads : Before g.S.BlockStore (HasNoneOrFirst g.S.BlockStore) l.fn.stores l.place;
  missing : IsTrue l.is_missing → IsHeadMissing g.S.BlockStore l.fn.stores;
}
