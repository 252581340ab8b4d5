use Rattle.std.proofs.Common.{sym, length, arith}
use Rattle.live_jobs.specs.Started.{Runs, Ended}
use Rattle.live_jobs.proofs.Rows.{from_head, from_next, from_start, from_none, each_snoc}
use Rattle.live_jobs.proofs.Rows.{length_snoc, put_all, room_stays, still_all}
use Rattle.live_jobs.proofs.Plans.{ended}
use Rattle.live_jobs.proofs.serve.join_writers.Goals as goal

pub loop-handle-init : goal.loop-handle-init
loop-handle-init g c =
    let gives = c.into_iter-handle-iterator.ensures.into_iter_gives in
    let all = c.args.running.ok.0 in
    record {
      count = omega (arith, gives.1, c.requires.none);
      room = c.requires.room;
      todo = from_start
          (λ n h. Runs c.args.channels.now c.args.ends n h.promise.channel.now h.promise.ends) _ _ _
          c.requires.runs (sym c.requires.none) gives.0;
      fit = from_none (λ n w. Ended c.args.channels.now c.args.ends n w.pass w.lent w.closed.items)
          _ c.requires.none;
    }

pub loop-handle-preserved : goal.loop-handle-preserved
loop-handle-preserved g c =
    let inv = c.loop-handle.invariant in
    let steps = c.in-Some.ensures.steps in
    let pushed = c.push_reserved.ensures in
    let long = length_snoc _ _ _ pushed.items in
    let head = from_head
    (λ n h. Runs c.args.channels.now c.args.ends n h.promise.channel.now h.promise.ends)
    (length c.loop-handle.writers.items) _ _ _ inv.todo steps.0 in
    record {
      count = still_all _ _ _ _ _ inv.count long steps.1;
      room = room_stays _ _ _ inv.room pushed.capacity;
      todo = from_next
          (λ n h. Runs c.args.channels.now c.args.ends n h.promise.channel.now h.promise.ends) _ _ _
          _ _ inv.todo steps.0 long;
      fit = each_snoc (λ n w. Ended c.args.channels.now c.args.ends n w.pass w.lent w.closed.items)
          _ _ _ inv.fit pushed.items
          (ended c.args.channels.now c.args.ends (length c.loop-handle.writers.items)
          c.in-Some.handle.promise.channel.now c.in-Some.handle.promise.ends c.join.result.pass _ _
          head c.join.ensures.0 c.join.ensures.1 c.join.ensures.2);
    }

-- that was the last
pub returns : goal.returns
returns g c =
    let inv = c.loop-handle.invariant in
    record { all = put_all _ _ _ inv.count c.in-None.ensures.steps.0; ended = inv.fit }
