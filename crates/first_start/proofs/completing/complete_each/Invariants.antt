use Rattle.std.proofs.Common.{◌≡◌, length, map}
use Rattle.first_start.specs.Completing.{CompletesHead}
use Rattle.first_start.proofs.Walked.{Walked}
use Rattle.first_start.proofs.completing.complete_each.Given as goal

-- the heads so far are there, and each store has as many blocks as it had
abbrev pub invariant-loop-place : goal.invariant-loop-place
invariant-loop-place g l = record {
  walked : Walked (CompletesHead g.S.BlockStore) l.fn.stores l.stores l.place;
  counts : map (λ store. length (g.S.BlockStore.blocks store)) l.stores
      ≡ map (λ store. length (g.S.BlockStore.blocks store)) l.fn.stores;
}
