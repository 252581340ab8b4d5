use Rattle.std.proofs.Common.{◌∙◌, arith, length, refl, sym}
use Rattle.std.proofs.lemmas.Bool.{ltb-true, ltb-false}
use Rattle.std.proofs.lemmas.Option.{slice_get_read, slice_get_past}
use Rattle.relay_explain.proofs.Smalls.{none_passed, room_passed, small_found}
use Rattle.relay_explain.proofs.choice.first_small.Goals as goal

-- a number without a buffer is passed
pub loop-number-preserved-in_default : goal.loop-number-preserved-in_default
loop-number-preserved-in_default c =
    sym (none_passed c.args.buffers.now c.args.size c.args.numbers.now c.loop-number.number-index
    c.loop-number-test.true
    (slice_get_past c.args.buffers.now _ (ltb-false _ _ (sym c.in_default.ensures.lookup.0))))
    ∙ c.loop-number.invariant

-- a buffer without room is the one
pub returns-then-room_of-size : goal.returns-then-room_of-size
returns-then-room_of-size c =
    sym (small_found c.args.buffers.now c.args.size c.args.numbers.now c.loop-number.number-index
    c.in-Some.buffer.now c.loop-number-test.true
    (slice_get_read c.args.buffers.now (length c.args.buffers.now) _ c.in-Some.buffer.now refl
    (ltb-true _ _ (sym c.in-Some.ensures.lookup.0)) c.in-Some.ensures.lookup.1)
    (omega (arith, c.room_of.ensures, c.if-room_of-size.true)))
    ∙ c.loop-number.invariant

-- a buffer with room is passed
pub loop-number-preserved : goal.loop-number-preserved
loop-number-preserved c =
    sym (room_passed c.args.buffers.now c.args.size c.args.numbers.now c.loop-number.number-index
    c.in-Some.buffer.now c.loop-number-test.true
    (slice_get_read c.args.buffers.now (length c.args.buffers.now) _ c.in-Some.buffer.now refl
    (ltb-true _ _ (sym c.in-Some.ensures.lookup.0)) c.in-Some.ensures.lookup.1)
    (omega (arith, c.room_of.ensures, c.if-room_of-size.false)))
    ∙ c.loop-number.invariant
