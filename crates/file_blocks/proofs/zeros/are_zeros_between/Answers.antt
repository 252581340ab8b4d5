use Rattle.std.proofs.Common.{◌∙◌, arith}
use Rattle.file_blocks.proofs.ZeroLemmas.{not_all, one_more_piece}
use Rattle.file_blocks.proofs.zeros.are_zeros_between.Goals as goal

-- a piece has another octet
pub returns-then-not-branch-clause-zeros : goal.returns-then-not-branch-clause-zeros
returns-then-not-branch-clause-zeros g c = λ honest.
    let before = c.loop-at.invariant in
    not_all c.args.from c.loop-at.at c.min-many.result c.args.to _ _ _ before.begun
    (omega (arith, c.min-many.ensures, c.loop-at-test.true)) (before.same honest)
    (c.in_ok-is_zero_piece.ensures.zeros (before.honest honest)) c.if-not-branch.true

-- one more is of zeros
pub loop-at-preserved : goal.loop-at-preserved
loop-at-preserved g c =
    let before = c.loop-at.invariant in
    let read = c.in_ok-is_zero_piece.ensures.read in
    record {
      begun = omega (arith, before.begun);
      within = omega (arith, c.min-many.ensures, c.loop-at-test.true);
      room = c.is_zero_piece.ensures.length ∙ before.room;
      zeros = λ honest.
          one_more_piece c.args.from c.loop-at.at c.min-many.result c.args.to _ _ _ before.begun
          (omega (arith, c.min-many.ensures, c.loop-at-test.true)) (before.same honest)
          (c.in_ok-is_zero_piece.ensures.zeros (before.honest honest)) c.if-not-branch.false
          (before.zeros honest);
      same = λ honest. read.same (before.honest honest) ∙ before.same honest;
      honest = λ honest. read.honest (before.honest honest);
      failures = read.no_failure ∙ before.failures;
    }
