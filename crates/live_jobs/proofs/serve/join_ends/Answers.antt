use Rattle.std.proofs.Common.{◌≡◌, ◌∙◌, ◌+◌, ℕ, [], ap, sym, map, subst, length, arith}
use Rattle.std.proofs.lemmas.List.{nil_from_length}
use Rattle.std.specs.Vec.Iter.{into_iter_items}
use Rattle.live_jobs.specs.Seats.{left_by}
use Rattle.live_jobs.specs.Started.{Serves, Left, HasKept}
use Rattle.live_jobs.proofs.Rows.{from_head, from_next, from_start, from_none, each_snoc}
use Rattle.live_jobs.proofs.Rows.{length_snoc, put_all, room_stays, still_all}
use Rattle.live_jobs.proofs.Plans.{left, none_kept, kept_snoc, services_end, services_next}
use Rattle.live_jobs.proofs.Plans.{services_start}
use Rattle.live_jobs.proofs.serve.join_ends.Goals as goal

pub loop-handle-init : goal.loop-handle-init
loop-handle-init g c =
    let gives = c.into_iter-handle-iterator.ensures.into_iter_gives in
    let all = c.args.serving.ok.0 in
    record {
      count = omega (arith, gives.1, c.requires.none.0);
      room = c.requires.room.0;
      todo = from_start (λ n h. Serves c.args.channels.now n h.promise.channels.now h.promise.end) _
          _ _ c.requires.serves (sym c.requires.none.0) gives.0;
      both = c.requires.none.1 ∙ sym c.requires.none.0;
      spare = c.requires.room.1;
      fit = from_none (λ n x. Left c.args.channels.now n x) _ c.requires.none.0;
      marks = services_start g.V.Accounts.mark _ _ _ c.requires.none.1
          (ap (map (λ h. g.V.Accounts.mark h.promise.service.value)) gives.0);
      kept = none_kept g.V.Accounts.fits c.args.lefts.now.items _ c.requires.none.1;
    }

pub loop-handle-preserved : goal.loop-handle-preserved
loop-handle-preserved g c =
    let inv = c.loop-handle.invariant in
    let steps = c.in-Some.ensures.steps in
    let pushed = c.push_reserved.ensures in
    let also = c.push_reserved-in-loop-handle.ensures in
    let long = length_snoc _ _ _ pushed.items in
    let wide = length_snoc _ _ _ also.items in
    let head = from_head (λ n h. Serves c.args.channels.now n h.promise.channels.now h.promise.end)
    (length c.loop-handle.lefts.items) _ _ _ inv.todo steps.0 in
    record {
      count = still_all _ _ _ _ _ inv.count long steps.1;
      room = room_stays _ _ _ inv.room pushed.capacity;
      todo = from_next (λ n h. Serves c.args.channels.now n h.promise.channels.now h.promise.end) _
          _ _ _ _ inv.todo steps.0 long;
      both = wide ∙ ap (λ (n : ℕ). n + 1) inv.both ∙ sym long;
      spare = room_stays _ _ _ inv.spare also.capacity;
      fit = each_snoc (λ n x. Left c.args.channels.now n x) _ _ _ inv.fit pushed.items
          (left _ c.in-Some.handle.promise.channels.now _ c.in-Some.handle.promise.end
          c.join-seat.result.seat head c.join-seat.ensures.0 c.join-seat.ensures.1);
      marks = services_next g.V.Accounts.mark _ _ _ _ _ _ _ inv.marks also.items
          (ap (map (λ h. g.V.Accounts.mark h.promise.service.value)) steps.0) c.join-seat.ensures.3;
      kept = kept_snoc g.V.Accounts.fits _ _ c.join-seat.result.seat _ _ c.join-seat.result.service
          inv.kept inv.both pushed.items also.items
          (subst (λ n. HasKept g.V.Accounts.fits c.join-seat.result.service n
          (left_by c.join-seat.result.seat)) head.0 c.join-seat.ensures.2);
    }

-- that was the last
pub returns : goal.returns
returns g c =
    let inv = c.loop-handle.invariant in
    let done = c.in-None.ensures.steps.0 in
    let rest = c.loop-handle.handle-iterator in
    let none : into_iter_items rest ≡ [] = nil_from_length rest.rest.items
    (omega (arith, done, rest.rest.ok)) in
    record {
      all = (put_all _ _ _ inv.count done, inv.both ∙ put_all _ _ _ inv.count done);
      left = inv.fit;
      kept = inv.kept;
      marks = services_end g.V.Accounts.mark c.loop-handle.services.items _ _ inv.marks
          (ap (map (λ h. g.V.Accounts.mark h.promise.service.value)) none);
    }
