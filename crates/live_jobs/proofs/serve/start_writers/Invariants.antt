use Rattle.std.proofs.Common.{◌≡◌, ◌+◌, ◌≤◌, length}
use Rattle.std.specs.Prelude.{vec_capacity}
use Rattle.std.specs.Vec.Iter.{into_iter_items, into_iter_len}
use Rattle.live_jobs.specs.Rows.{From}
use Rattle.live_jobs.specs.Started.{Ready, Runs}
use Rattle.live_jobs.proofs.serve.start_writers.Given as goal

abbrev pub invariant-loop-seat : goal.invariant-loop-seat
invariant-loop-seat g l =
    let rest = l.seat-iterator in record {
      count : length l.running.items + into_iter_len rest ≡ length l.fn.writers.items;
      room : length l.fn.writers.items ≤ vec_capacity l.running;
      todo : From (λ n w. Ready l.channels l.ends n w.pass w.lent w.closed.items)
          (length l.running.items) (into_iter_items rest);
      fit : From (λ n h. Runs l.channels l.ends n h.promise.channel.now h.promise.ends) 0
          l.running.items;
    }
