use Rattle.std.proofs.Common.{◌∙◌, ap, drop, subst, sym}
use Rattle.file_blocks.specs.Zeros.{HasZeros, end_of}
use Rattle.file_blocks.proofs.ZeroLemmas.{emptied_behind, emptied_left, emptied_zeros, where_ok}
use Rattle.file_blocks.proofs.zeros.zero_blocks.Goals as goal

-- a block couldn't be written
pub returns-in_err-write_zeros-2-clause-behind : goal.returns-in_err-write_zeros-2-clause-behind
returns-in_err-write_zeros-2-clause-behind g c = λ honest.
    let one = c.write_zeros.ensures.honest honest in
    let two = c.flush.ensures.honest one in
    emptied_behind c.args.n _ _ _ _ _ _ c.place_of-heads.ensures c.size_of.ensures
    (c.flush.ensures.same one) (c.in_ok-write_zeros.ensures.others honest)
    (c.in_ok-write_zeros.ensures.zeros honest) (c.write_zeros-2.ensures.others two)

pub returns-in_err-write_zeros-2-clause-left : goal.returns-in_err-write_zeros-2-clause-left
returns-in_err-write_zeros-2-clause-left g c = λ honest.
    let one = c.write_zeros.ensures.honest honest in
    let two = c.flush.ensures.honest one in
    emptied_left c.args.n _ _ _ _ _ _ c.place_of-heads.ensures c.size_of.ensures
    (c.flush.ensures.same one) (c.in_ok-write_zeros.ensures.others honest)
    (c.in_ok-write_zeros.ensures.zeros honest) (c.write_zeros-2.ensures.others two)
    (c.write_zeros-2.ensures.left two)

-- all have zeros
pub returns-clause-zeros : goal.returns-clause-zeros
returns-clause-zeros g c = λ honest.
    let one = c.write_zeros.ensures.honest honest in
    let two = c.flush.ensures.honest one in
    let three = c.write_zeros-2.ensures.honest two in
    where_ok c.flush-2.result _ _
    (λ safe. subst (HasZeros 0 (end_of c.args.n)) (sym safe)
    (emptied_zeros c.args.n _ _ _ _ _ _ c.place_of-heads.ensures c.size_of.ensures
    (c.flush.ensures.same one) (c.in_ok-write_zeros.ensures.others honest)
    (c.in_ok-write_zeros.ensures.zeros honest) (c.write_zeros-2.ensures.others two)
    (c.in_ok-write_zeros-2.ensures.zeros two)))
    (c.flush-2.ensures.safe three)

pub returns-clause-behind : goal.returns-clause-behind
returns-clause-behind g c = λ honest.
    let one = c.write_zeros.ensures.honest honest in
    let two = c.flush.ensures.honest one in
    let three = c.write_zeros-2.ensures.honest two in
    ap (drop (end_of c.args.n)) (c.flush-2.ensures.same three)
    ∙ emptied_behind c.args.n _ _ _ _ _ _ c.place_of-heads.ensures c.size_of.ensures
    (c.flush.ensures.same one) (c.in_ok-write_zeros.ensures.others honest)
    (c.in_ok-write_zeros.ensures.zeros honest) (c.write_zeros-2.ensures.others two)
