use Rattle.std.proofs.Common.{Ok, Err, arith, refl}
use Rattle.block_shelf.proofs.Restarted.{all_restarted, keeps_further, not_busy}
use Rattle.block_shelf.proofs.Stops.{not_idle}
use Rattle.block_shelf.proofs.Restarted.{ends_at, nothing_restarted, refused_at, stays_same}
use Rattle.block_shelf.proofs.buffer_set.BufferSet.restart.Goals as goal

pub loop-place-init : goal.loop-place-init
loop-place-init g c = record {
  keeps = stays_same c.args.self.now;
  restarted = nothing_restarted c.args.stop c.args.self.now;
}

pub loop-place-preserved : goal.loop-place-preserved
loop-place-preserved g c = record {
  keeps = keeps_further c.args.self.now c.loop-place.self c.restart_buffer.new.self (Ok tt)
      c.loop-place.invariant.keeps c.in_default.ensures.keeps;
  restarted = c.in_default.ensures.restarted c.args.self.now
      c.loop-place.invariant.restarted;
}

pub returns-then-is_busy : goal.returns-then-is_busy
returns-then-is_busy g c =
    let busy = c.is_busy.ensures.busy c.if-is_busy.true in
    record {
      keeps = λ trusted w begun kept failures keeps.
          absurd (busy.writing trusted w begun kept failures keeps);
      restarted = tt;
      busy = (busy, refl);
      refused = tt;
    }

pub returns-in-Err : goal.returns-in-Err
returns-in-Err g c = record {
  keeps = keeps_further c.args.self.now c.loop-place.self c.restart_buffer.new.self
      (Err c.in-Err.fault) c.loop-place.invariant.keeps c.in-Err.ensures.keeps;
  restarted = tt;
  busy = not_busy c.args.self.now c.restart_buffer.new.self c.in-Err.fault c.in-Err.ensures.other
      (not_idle (c.is_busy.ensures.idle c.if-is_busy.false));
  refused = refused_at c.in-Err.fault c.in-Err.ensures.fault
      (ends_at
      (omega (
        arith,
        c.loop-place-test.true,
        c.len-place-end.ensures,
        c.args.self.now.buffers.ok,
      )) c.loop-place.invariant.restarted c.in-Err.ensures.refused);
}

pub returns : goal.returns
returns g c = record {
  keeps = c.loop-place.invariant.keeps;
  restarted =
      all_restarted c.args.stop c.loop-place.place c.args.self.now c.loop-place.self
      (omega (
        arith,
        c.loop-place-test.false,
        c.len-place-end.ensures,
        c.args.self.now.buffers.ok,
      ))
      c.loop-place.invariant.restarted;
  busy = tt;
  refused = tt;
}
