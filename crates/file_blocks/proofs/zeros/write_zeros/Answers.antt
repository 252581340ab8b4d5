use Rattle.std.proofs.Common.{◌∙◌, arith}
use Rattle.file_blocks.proofs.ZeroLemmas.{failed_left, failed_others, more_zeroed}
use Rattle.file_blocks.proofs.ZeroLemmas.{piece_changed, piece_written}
use Rattle.file_blocks.proofs.zeros.write_zeros.Goals as goal

-- a piece that couldn't be written may have any octets
pub returns-in_err-write-clause-others : goal.returns-in_err-write-clause-others
returns-in_err-write-clause-others g c = λ honest.
    let before = c.loop-at.invariant in
    let many = c.min-many.result in
    failed_others c.args.from c.loop-at.at many _ _ _ before.begun (before.zeroed honest)
    (piece_changed c.loop-at.at many _ _ (omega (arith, c.min-many.ensures))
    (c.write.ensures.others (before.honest honest))) c.args.to
    (omega (arith, c.min-many.ensures, c.loop-at-test.true))

pub returns-in_err-write-clause-left : goal.returns-in_err-write-clause-left
returns-in_err-write-clause-left g c = λ honest.
    let before = c.loop-at.invariant in
    let many = c.min-many.result in
    failed_left c.args.from c.loop-at.at many _ _ _ before.begun (before.zeroed honest)
    (piece_changed c.loop-at.at many _ _ (omega (arith, c.min-many.ensures))
    (c.write.ensures.others (before.honest honest))) c.args.to
    (omega (arith, c.min-many.ensures, c.loop-at-test.true)) (omega (arith, c.min-many.ensures))

-- one more piece has zeros
pub loop-at-preserved : goal.loop-at-preserved
loop-at-preserved g c =
    let before = c.loop-at.invariant in
    let many = c.min-many.result in
    record {
      begun = omega (arith, before.begun);
      within = omega (arith, c.min-many.ensures, c.loop-at-test.true);
      zeroed = λ honest.
          more_zeroed c.args.from c.loop-at.at many _ _ _ before.begun (before.zeroed honest)
          (piece_changed c.loop-at.at many _ _ (omega (arith, c.min-many.ensures))
          (c.write.ensures.others (before.honest honest)))
          (piece_written c.loop-at.at many _ (omega (arith, c.min-many.ensures))
          (c.in_ok-write.ensures.written (before.honest honest)));
      honest = λ honest. c.write.ensures.honest (before.honest honest);
      failures = c.in_ok-write.ensures.no_failure ∙ before.failures;
    }
