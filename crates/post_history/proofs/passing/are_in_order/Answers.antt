use Rattle.std.proofs.Common.{◌∙◌, arith, sym}
use Rattle.std.proofs.lemmas.Bool.{false≢true}
use Rattle.std.proofs.lemmas.Option.{get_or_from_slice_get, slice_get-get_or, slice_get_within}
use Rattle.post_history.proofs.PassingLemmas.{in_order_more}
use Rattle.post_history.proofs.passing.are_in_order.Goals as goal

pub loop-place-init : goal.loop-place-init
loop-place-init c = λ j front below there. absurd (omega (arith, below))

-- this one isn't
pub returns-then-buffer-place : goal.returns-then-buffer-place
returns-then-buffer-place c = (
  λ yes. absurd (false≢true yes),
  λ order. absurd (c.if-buffer-place.true (
      c.buffer.ensures ∙ order c.loop-place.place _
      (slice_get-get_or c.args.fronts.now c.loop-place.place _ c.loop-place-test.true)
      )),
)

pub loop-place-preserved : goal.loop-place-preserved
loop-place-preserved c =
    in_order_more c.loop-place.place c.args.fronts.now _ c.loop-place.invariant
    c.loop-place-test.true (sym c.buffer.ensures ∙ c.if-buffer-place.false)

pub returns : goal.returns
returns c = (
  λ yes place front there. c.loop-place.invariant place front
      (omega (
        arith,
        slice_get_within c.args.fronts.now place front there,
        c.loop-place-test.false,
      )) there,
  λ order. search,
)
