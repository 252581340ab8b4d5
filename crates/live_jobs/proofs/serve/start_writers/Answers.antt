use Rattle.std.proofs.Common.{◌<◌, ◌∙◌, ℕ, ap, sym, subst, Some, length, arith}
use Rattle.std.specs.Prelude.{slice_get}
use Rattle.std.proofs.lemmas.Bool.{false≢true}
use Rattle.live_jobs.specs.Started.{Ready, Runs}
use Rattle.live_jobs.proofs.Passes.{read_at}
use Rattle.live_jobs.proofs.Rows.{from_head, from_next, from_start, from_none, each_snoc}
use Rattle.live_jobs.proofs.Rows.{length_snoc, put_all, put_below, put_some, room_stays}
use Rattle.live_jobs.proofs.Rows.{still_all}
use Rattle.live_jobs.proofs.serve.start_writers.Goals as goal

pub loop-seat-init : goal.loop-seat-init
loop-seat-init g c =
    let all = c.args.writers.ok.0 in
    record {
      count = let gives = c.into_iter-seat-iterator.ensures.into_iter_gives in
          omega (arith, gives.1, c.requires.none);
      room = omega (arith, c.requires.room);
      todo = let gives = c.into_iter-seat-iterator.ensures.into_iter_gives in
          from_start (λ n w. Ready c.args.channels.now c.args.ends n w.pass w.lent w.closed.items) _
          _ _ c.requires.fit (sym c.requires.none) gives.0;
      fit = from_none
          (λ n h. Runs c.args.channels.now c.args.ends n h.promise.channel.now h.promise.ends) _
          c.requires.none;
    }

pub start_writer-requires-clause-pass : goal.start_writer-requires-clause-pass
start_writer-requires-clause-pass g c κs within =
    let same = c.len-group.ensures ∙ c.loop-seat.running.ok.0 in
    let below = subst (λ (n : ℕ). n < length c.args.channels.now) (sym same)
    (put_below _ _ _ _ _ c.loop-seat.invariant.count c.in-Some.ensures.steps.1
    c.requires.channels) in
    let head = from_head
    (λ n w. Ready c.args.channels.now c.args.ends n w.pass w.lent w.closed.items)
    (length c.loop-seat.running.items) _ _ _ c.loop-seat.invariant.todo
    c.in-Some.ensures.steps.0 in
    head.0 c.index-channels-group.result (ap (slice_get c.args.channels.now) (sym same)
    ∙ read_at _ _ _ below c.index-channels-group.is)

pub start_writer-requires-clause-here : goal.start_writer-requires-clause-here
start_writer-requires-clause-here g c κs within =
    (from_head (λ n w. Ready c.args.channels.now c.args.ends n w.pass w.lent w.closed.items)
    (length c.loop-seat.running.items) _ _ _ c.loop-seat.invariant.todo c.in-Some.ensures.steps.0).1

pub start_writer-requires-clause-ends : goal.start_writer-requires-clause-ends
start_writer-requires-clause-ends g c κs within =
    (from_head (λ n w. Ready c.args.channels.now c.args.ends n w.pass w.lent w.closed.items)
    (length c.loop-seat.running.items) _ _ _ c.loop-seat.invariant.todo c.in-Some.ensures.steps.0).2

pub bounds-channels-group : goal.bounds-channels-group
bounds-channels-group g c =
    subst (λ (n : ℕ). n < length c.args.channels.now)
    (sym (c.len-group.ensures ∙ c.loop-seat.running.ok.0))
    (put_below _ _ _ _ _ c.loop-seat.invariant.count c.in-Some.ensures.steps.1 c.requires.channels)

pub loop-seat-preserved : goal.loop-seat-preserved
loop-seat-preserved g c =
    let pushed = c.push_reserved.ensures in
    let long = length_snoc _ _ _ pushed.items in
    let told = c.in-Some-start_writer.ensures in
    let same = c.len-group.ensures ∙ c.loop-seat.running.ok.0 in
    let below = subst (λ (n : ℕ). n < length c.args.channels.now) (sym same)
    (put_below _ _ _ _ _ c.loop-seat.invariant.count c.in-Some.ensures.steps.1
    c.requires.channels) in
    let at = ap (slice_get c.args.channels.now) (sym same)
    ∙ read_at _ _ _ below c.index-channels-group.is in
    record {
      count = still_all _ _ _ _ _ c.loop-seat.invariant.count long c.in-Some.ensures.steps.1;
      room = room_stays _ _ _ c.loop-seat.invariant.room pushed.capacity;
      todo = from_next (λ n w. Ready c.args.channels.now c.args.ends n w.pass w.lent w.closed.items)
          _ _ _ _ _ c.loop-seat.invariant.todo c.in-Some.ensures.steps.0 long;
      fit = each_snoc
          (λ n h. Runs c.args.channels.now c.args.ends n h.promise.channel.now h.promise.ends) _ _ _
          c.loop-seat.invariant.fit pushed.items (told.1, at ∙ ap Some (sym told.0));
    }

-- that was the last
pub returns : goal.returns
returns g c = record {
  all = λ yes. put_all _ _ _ c.loop-seat.invariant.count c.in-None.ensures.steps.0;
  some = put_some _ _ _ c.loop-seat.invariant.count;
  fit = c.loop-seat.invariant.fit;
}

-- or one couldn't be started
pub returns-in-None-start_writer : goal.returns-in-None-start_writer
returns-in-None-start_writer g c = record {
  all = λ yes. absurd (false≢true yes);
  some = put_some _ _ _ c.loop-seat.invariant.count;
  fit = c.loop-seat.invariant.fit;
}
