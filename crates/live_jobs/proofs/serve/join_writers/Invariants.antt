use Rattle.std.proofs.Common.{◌≡◌, ◌+◌, ◌≤◌, length}
use Rattle.std.specs.Prelude.{vec_capacity}
use Rattle.std.specs.Vec.Iter.{into_iter_items, into_iter_len}
use Rattle.live_jobs.specs.Rows.{From}
use Rattle.live_jobs.specs.Started.{Runs, Ended}
use Rattle.live_jobs.proofs.serve.join_writers.Given as goal

abbrev pub invariant-loop-handle : goal.invariant-loop-handle
invariant-loop-handle g l =
    let rest = l.handle-iterator in record {
      count : length l.writers.items + into_iter_len rest ≡ length l.fn.running.items;
      room : length l.fn.running.items ≤ vec_capacity l.writers;
      todo : From (λ n h. Runs l.channels l.ends n h.promise.channel.now h.promise.ends)
          (length l.writers.items) (into_iter_items rest);
      fit : From (λ n w. Ended l.channels l.ends n w.pass w.lent w.closed.items) 0 l.writers.items;
    }
