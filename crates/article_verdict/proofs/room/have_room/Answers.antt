use Rattle.std.proofs.Common.{◌∙◌, arith, length, None, refl, sym}
use Rattle.std.proofs.lemmas.Bool.{ltb-true, ltb-false}
use Rattle.std.proofs.lemmas.Option.{slice_get_read, slice_get_past}
use Rattle.article_verdict.proofs.GroupRoom.{room_next, room_passed, room_lacks}
use Rattle.article_verdict.proofs.room.have_room.Goals as goal

-- a number without a buffer is passed
pub loop-number-preserved-in_default : goal.loop-number-preserved-in_default
loop-number-preserved-in_default c =
    c.loop-number.invariant
    ∙ room_next c.args.all.now c.args.blocks c.args.numbers.now c.loop-number.number-index None
    c.loop-number-test.true
    (slice_get_past c.args.all.now _ (ltb-false _ _ (sym c.in_default.ensures.lookup.0)))

-- a buffer without room decides
pub returns-then-blocks-from : goal.returns-then-blocks-from
returns-then-blocks-from c =
    sym (c.loop-number.invariant
    ∙ room_lacks c.args.all.now c.args.blocks c.args.numbers.now c.loop-number.number-index
    c.in-Some.buffer.now c.loop-number-test.true
    (slice_get_read c.args.all.now (length c.args.all.now) _ c.in-Some.buffer.now refl
    (ltb-true _ _ (sym c.in-Some.ensures.lookup.0)) c.in-Some.ensures.lookup.1)
    (omega (arith, c.from.ensures, c.if-blocks-from.true)))

-- a buffer with room is passed
pub loop-number-preserved : goal.loop-number-preserved
loop-number-preserved c =
    c.loop-number.invariant
    ∙ room_passed c.args.all.now c.args.blocks c.args.numbers.now c.loop-number.number-index
    c.in-Some.buffer.now c.loop-number-test.true
    (slice_get_read c.args.all.now (length c.args.all.now) _ c.in-Some.buffer.now refl
    (ltb-true _ _ (sym c.in-Some.ensures.lookup.0)) c.in-Some.ensures.lookup.1)
    (omega (arith, c.from.ensures, c.if-blocks-from.false))
