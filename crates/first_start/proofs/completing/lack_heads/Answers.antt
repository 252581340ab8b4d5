use Rattle.std.proofs.Common.{◌∙◌, Some, ap, arith, sym}
use Rattle.std.proofs.lemmas.Option.{slice_get_within}
use Rattle.first_start.specs.Completing.{HasNoneOrFirst}
use Rattle.first_start.proofs.Bare.{counted_on, counted_so_far, hold_on, hold_so_far, one_more}
use Rattle.first_start.proofs.Bare.{stood, walked_on}
use Rattle.first_start.proofs.completing.lack_heads.Goals as goal
use Rattle.first_start.proofs.completing.lack_heads.Goals.{then-is_missing, else-is_missing}

-- this store has another head
pub returns-in-None-clause-held : goal.returns-in-None-clause-held
returns-in-None-clause-held g c =
    hold_on g.S.BlockStore c.args.stores.now c.loop-place.stores c.loop-place.place
    c.loop-place.invariant.walked c.index-stores-place.result c.loop-place-test.true
    c.lacks_head.new.store c.lacks_head.ensures.held

pub returns-in-None-clause-blocks : goal.returns-in-None-clause-blocks
returns-in-None-clause-blocks g c =
    counted_on g.S.BlockStore c.args.stores.now c.loop-place.stores c.loop-place.place
    c.loop-place.invariant.walked c.index-stores-place.result c.loop-place-test.true
    c.lacks_head.new.store c.lacks_head.ensures.held

-- one more has none, or its first one
pub loop-place-preserved : goal.loop-place-preserved
loop-place-preserved g c =
    let all = c.args.stores.now in
    let now = c.loop-place.stores in
    let k = c.loop-place.place in
    let had = c.loop-place.invariant in
    let d = c.index-stores-place.result in
    let next = c.lacks_head.new.store in
    let there = stood g.S.BlockStore all now k had.walked d c.loop-place-test.true next
    c.lacks_head.ensures.held in
    record {
      walked = walked_on g.S.BlockStore all now k had.walked d c.loop-place-test.true next
          c.lacks_head.ensures.held;
      heads = one_more g.S.BlockStore (HasNoneOrFirst g.S.BlockStore) all k _ had.heads there
          (λ honest. c.in-Some.ensures.head honest);
      missing = λ is.
          elim c.if-is_missing.branch [
            | then-is_missing w ↦ had.missing w.if-is_missing.true
            | else-is_missing w ↦ (
              k,
              _,
              there,
              λ honest. c.in-Some.ensures.missing honest (ap Some (sym w.is_missing-is ∙ is)),
            )
          ];
    }

-- that was the last
pub returns-clause-heads : goal.returns-clause-heads
returns-clause-heads g c = λ all b store is honest.
    c.loop-place.invariant.heads b store
    (omega (arith, slice_get_within c.args.stores.now b store is, c.loop-place-test.false)) is
    honest

pub returns-clause-held : goal.returns-clause-held
returns-clause-held g c =
    hold_so_far g.S.BlockStore c.args.stores.now c.loop-place.stores c.loop-place.place
    c.loop-place.invariant.walked

pub returns-clause-blocks : goal.returns-clause-blocks
returns-clause-blocks g c =
    counted_so_far g.S.BlockStore c.args.stores.now c.loop-place.stores c.loop-place.place
    c.loop-place.invariant.walked
