use Rattle.relay_remains.proofs.Ended.{HaveRead}
use Rattle.relay_remains.proofs.heads.standing_of.Given as goal

-- the heads so far were read
abbrev pub invariant-loop-place : goal.invariant-loop-place
invariant-loop-place g l = HaveRead g.S.BlockStore l.stop l.fn.stores l.stores l.place l.standing
