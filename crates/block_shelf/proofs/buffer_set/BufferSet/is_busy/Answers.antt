use Rattle.std.proofs.Common.{◌∙◌, ap, arith, length, refl, sym}
use Rattle.std.proofs.lemmas.Bool.{true≢false}
use Rattle.std.proofs.lemmas.Option.{slice_get_read, slice_get_within}
use Rattle.block_shelf.proofs.Stops.{busy_buffer_set, idle_more}
use Rattle.block_shelf.proofs.buffer_set.BufferSet.is_busy.Goals as goal

pub returns-then-is_busy : goal.returns-then-is_busy
returns-then-is_busy g c = record {
  busy = λ yes.
      busy_buffer_set c.args.self.now c.loop-buffer.buffer-index
      (rw c.deref-buffer-items.ensures.value at
      (slice_get_read c.deref-buffer-items.result.now _ c.loop-buffer.buffer-index
      c.buffer-item.result refl c.loop-buffer-test.true c.buffer-item.is))
      (sym c.is_busy.ensures ∙ c.if-is_busy.true);
  idle = λ no. absurd (true≢false no);
}

pub loop-buffer-init : goal.loop-buffer-init
loop-buffer-init g c = λ b code below is. absurd (omega (arith, below))

pub loop-buffer-preserved : goal.loop-buffer-preserved
loop-buffer-preserved g c =
    idle_more c.args.self.now c.loop-buffer.buffer-index
    (rw c.deref-buffer-items.ensures.value at
    (slice_get_read c.deref-buffer-items.result.now _ c.loop-buffer.buffer-index
    c.buffer-item.result refl c.loop-buffer-test.true c.buffer-item.is))
    (sym c.is_busy.ensures ∙ c.if-is_busy.false)
    c.loop-buffer.invariant

pub returns : goal.returns
returns g c = record {
  busy = λ yes. absurd (true≢false (sym yes));
  idle = λ no b code there.
      c.loop-buffer.invariant b code
      (omega (
        arith,
        c.loop-buffer-test.false,
        ap length c.deref-buffer-items.ensures.value,
        slice_get_within c.args.self.now.buffers.items b code there,
      ))
      there;
}
