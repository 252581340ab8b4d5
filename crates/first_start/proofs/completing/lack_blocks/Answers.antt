use Rattle.std.proofs.Common.{All, ℕ, arith}
use Rattle.std.proofs.lemmas.Option.{slice_get_within}
use Rattle.first_start.specs.Completing.{IsUnmarked, IsZero}
use Rattle.first_start.proofs.Bare.{counted_on, counted_so_far, hold_on, hold_so_far, one_more}
use Rattle.first_start.proofs.Bare.{stood, walked_on}
use Rattle.first_start.proofs.completing.lack_blocks.Goals as goal

-- a block of this store has more than zeros
pub returns-then-not-lacks_all-clause-held : goal.returns-then-not-lacks_all-clause-held
returns-then-not-lacks_all-clause-held g c =
    hold_on g.S.BlockStore c.args.stores.now c.loop-place.stores c.loop-place.place
    c.loop-place.invariant.walked c.index-stores-place.result c.loop-place-test.true
    c.lacks_all.new.store c.lacks_all.ensures.held

pub returns-then-not-lacks_all-clause-blocks : goal.returns-then-not-lacks_all-clause-blocks
returns-then-not-lacks_all-clause-blocks g c =
    counted_on g.S.BlockStore c.args.stores.now c.loop-place.stores c.loop-place.place
    c.loop-place.invariant.walked c.index-stores-place.result c.loop-place-test.true
    c.lacks_all.new.store c.lacks_all.ensures.held

-- one more has zeros alone
pub loop-place-preserved : goal.loop-place-preserved
loop-place-preserved g c =
    let all = c.args.stores.now in
    let now = c.loop-place.stores in
    let k = c.loop-place.place in
    let had = c.loop-place.invariant in
    let d = c.index-stores-place.result in
    let next = c.lacks_all.new.store in
    record {
      walked = walked_on g.S.BlockStore all now k had.walked d c.loop-place-test.true next
          c.lacks_all.ensures.held;
      zeros = one_more g.S.BlockStore
          (λ (b : ℕ) (store : _). All IsZero (g.S.BlockStore.blocks store)) all k _ had.zeros
          (stood g.S.BlockStore all now k had.walked d c.loop-place-test.true next
          c.lacks_all.ensures.held)
          (λ honest. c.lacks_all.ensures.zeros honest c.if-not-lacks_all.false);
      marks = one_more g.S.BlockStore (λ (b : ℕ). IsUnmarked g.S.BlockStore) all k _ had.marks
          (stood g.S.BlockStore all now k had.walked d c.loop-place-test.true next
          c.lacks_all.ensures.held)
          (λ honest. c.lacks_all.ensures.marks honest c.if-not-lacks_all.false);
    }

-- that was the last
pub returns-clause-zeros : goal.returns-clause-zeros
returns-clause-zeros g c = λ all b store is honest.
    c.loop-place.invariant.zeros b store
    (omega (arith, slice_get_within c.args.stores.now b store is, c.loop-place-test.false)) is
    honest

pub returns-clause-marks : goal.returns-clause-marks
returns-clause-marks g c = λ all b store is honest.
    c.loop-place.invariant.marks b store
    (omega (arith, slice_get_within c.args.stores.now b store is, c.loop-place-test.false)) is
    honest

pub returns-clause-held : goal.returns-clause-held
returns-clause-held g c =
    hold_so_far g.S.BlockStore c.args.stores.now c.loop-place.stores c.loop-place.place
    c.loop-place.invariant.walked

pub returns-clause-blocks : goal.returns-clause-blocks
returns-clause-blocks g c =
    counted_so_far g.S.BlockStore c.args.stores.now c.loop-place.stores c.loop-place.place
    c.loop-place.invariant.walked
