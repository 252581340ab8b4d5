use Rattle.std.proofs.Common.{◌≡◌, ◌∙◌, ◌++◌, [], ap, sym, suc, subst, length, map, arith}
use Rattle.std.proofs.lemmas.Bool.{false≢true}
use Rattle.std.proofs.lemmas.List.{append-nil, nil_from_length}
use Rattle.std.specs.Prelude.{slice_get}
use Rattle.std.specs.Vec.Iter.{into_iter_items}
use Rattle.live_jobs.specs.Seats.{count_of, handed_by}
use Rattle.live_jobs.specs.Started.{Open, Serves}
use Rattle.live_jobs.proofs.Rows.{from_head, from_next, from_start, from_none, each_snoc}
use Rattle.live_jobs.proofs.Rows.{length_snoc, put_all, put_some, room_stays, still_all}
use Rattle.live_jobs.proofs.Plans.{services_start, services_next}
use Rattle.live_jobs.proofs.serve.start_ends.Goals as goal

pub loop-plan-init : goal.loop-plan-init
loop-plan-init g c =
    let gives = c.into_iter-left.ensures in
    let all = c.args.plans.ok.0 in
    record {
      count = omega (arith, all, gives.len, c.requires.none);
      room = c.requires.room;
      todo = from_start (λ n p. Open c.args.channels.now n p.seat) _ _ _ c.requires.fit
          (sym c.requires.none) gives.rest;
      kept = from_start
          (λ n p. g.V.Accounts.fits p.service n (count_of p.seat) (handed_by p.seat)) _ _ _
          c.requires.kept (sym c.requires.none) gives.rest;
      marks = services_start (λ h. g.V.Accounts.mark h.promise.service.value) _ _ _
          c.requires.none (ap (map (λ p. g.V.Accounts.mark p.service)) gives.rest);
      fit = from_none (λ n h. Serves c.args.channels.now n h.promise.channels.now h.promise.end) _
          c.requires.none;
    }

pub start_end-requires-clause-seat : goal.start_end-requires-clause-seat
start_end-requires-clause-seat g c κs within =
    (from_head (λ n p. Open c.args.channels.now n p.seat) (length c.loop-plan.serving.items) _ _ _
    c.loop-plan.invariant.todo c.in-Some.ensures.items).1

pub start_end-requires-clause-kept : goal.start_end-requires-clause-kept
start_end-requires-clause-kept g c κs within =
    let inv = c.loop-plan.invariant in
    let steps = c.in-Some.ensures in
    let this = from_head (λ n p. Open c.args.channels.now n p.seat)
    (length c.loop-plan.serving.items) _ _ _ inv.todo steps.items in
    subst (λ n. g.V.Accounts.fits c.in-Some.plan.service n (count_of c.in-Some.plan.seat)
    (handed_by c.in-Some.plan.seat)) (sym this.0)
    (from_head (λ n p. g.V.Accounts.fits p.service n (count_of p.seat) (handed_by p.seat))
    (length c.loop-plan.serving.items) _ _ _ inv.kept steps.items)

-- those that are left can leave
pub leave_running-requires-clause-fit : goal.leave_running-requires-clause-fit
leave_running-requires-clause-fit g c = λ k p at.
    (c.loop-plan.invariant.todo (suc k) p
    (ap (λ l. slice_get l (suc k)) c.in-Some.ensures.items ∙ at)).1

pub loop-plan-preserved : goal.loop-plan-preserved
loop-plan-preserved g c =
    let inv = c.loop-plan.invariant in
    let steps = c.in-Some.ensures in
    let pushed = c.push_reserved.ensures in
    let long = length_snoc _ _ _ pushed.items in
    let head = from_head (λ n p. Open c.args.channels.now n p.seat)
    (length c.loop-plan.serving.items) _ _ _ inv.todo steps.items in
    let told = c.in-Some-start_end.ensures in
    record {
      count = still_all _ _ _ _ _ inv.count long steps.len;
      room = (room_stays _ _ _ inv.room.0 pushed.capacity, inv.room.1);
      todo = from_next (λ n p. Open c.args.channels.now n p.seat) _ _ _ _ _ inv.todo steps.items
          long;
      kept = from_next (λ n p. g.V.Accounts.fits p.service n (count_of p.seat) (handed_by p.seat)) _
          _ _ _ _ inv.kept steps.items long;
      marks = services_next (λ h. g.V.Accounts.mark h.promise.service.value) _ _ _ _ _ _ _
          inv.marks pushed.items (ap (map (λ p. g.V.Accounts.mark p.service)) steps.items)
          (ap g.V.Accounts.mark told.2);
      fit = each_snoc (λ n h. Serves c.args.channels.now n h.promise.channels.now h.promise.end) _ _
          _ inv.fit pushed.items (told.1 ∙ head.0, told.0);
    }

pub returns-in-None : goal.returns-in-None
returns-in-None g c = record {
  all = λ yes. absurd (false≢true yes);
  some = put_some _ _ _ c.loop-plan.invariant.count;
  fit = c.loop-plan.invariant.fit;
  marks = λ yes. absurd (false≢true yes);
}

-- that was the last
pub returns : goal.returns
returns g c =
    let rest = c.loop-plan.left in
    let none : into_iter_items rest ≡ [] = nil_from_length rest.rest.items
    (omega (arith, c.in_default.ensures.cases.0, rest.rest.ok)) in
    let marks = map (λ h. g.V.Accounts.mark h.promise.service.value) c.loop-plan.serving.items in
    record {
      all = λ yes. put_all _ _ _ c.loop-plan.invariant.count c.in_default.ensures.cases.0;
      some = put_some _ _ _ c.loop-plan.invariant.count;
      fit = c.loop-plan.invariant.fit;
      marks = λ yes. sym (append-nil marks)
          ∙ ap (λ plans. marks ++ map (λ p. g.V.Accounts.mark p.service) plans) (sym none)
          ∙ c.loop-plan.invariant.marks;
    }
