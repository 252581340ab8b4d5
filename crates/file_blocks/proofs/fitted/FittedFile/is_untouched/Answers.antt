use Rattle.file_blocks.proofs.ZeroLemmas.{kept_result, kept_there}
use Rattle.file_blocks.proofs.fitted.FittedFile.is_untouched.Goals as goal

-- the head blocks have more than zeros
pub returns-then-not-branch-clause-zeros : goal.returns-then-not-branch-clause-zeros
returns-then-not-branch-clause-zeros g c = λ honest.
    kept_there c.args.self.now.count _ _ _ _ c.place_of-heads.ensures c.size_of.ensures
    (c.in_ok-are_zeros_between.ensures.zeros honest) c.if-not-branch.true

-- they have none, and the blocks are what is left
pub returns-clause-zeros : goal.returns-clause-zeros
returns-clause-zeros g c = λ honest.
    kept_result c.args.self.now.count _ _ _ _ _ c.are_zeros_between-2.result
    c.place_of-heads.ensures c.size_of.ensures (c.are_zeros_between.ensures.same honest)
    (c.in_ok-are_zeros_between.ensures.zeros honest) c.if-not-branch.false
    (c.are_zeros_between-2.ensures.zeros (c.are_zeros_between.ensures.honest honest))
