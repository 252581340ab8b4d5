use Rattle.std.proofs.Common.{◌≡◌, ◌∙◌, ◌++◌, [], ap, append-nil, arith, map, refl, sym}
use Rattle.std.proofs.lemmas.List.{nil_from_length}
use Rattle.std.specs.Vec.Iter.{into_iter_items}
use Rattle.live_jobs.specs.Started.{Fresh}
use Rattle.live_jobs.proofs.Plans.{services_next}
use Rattle.live_jobs.proofs.Rows.{each_snoc, length_snoc, put_all, room_stays, still_all}
use Rattle.live_jobs.proofs.open.new_plans.Goals as goal

pub loop-service-preserved : goal.loop-service-preserved
loop-service-preserved g c =
    let inv = c.loop-service.invariant in
    let steps = c.in-Some.ensures.steps in
    let pushed = c.push_reserved.ensures in
    let long = length_snoc _ _ _ pushed.items in
    let here = c.loop-service.plans.ok.0 in
    let count = c.len-in-loop-service.ensures in
    record {
      count = still_all _ _ _ _ _ inv.count long steps.1;
      room = room_stays _ _ _ inv.room pushed.capacity;
      fresh = each_snoc (λ e p. Fresh e p.seat) _ _ _ inv.fresh pushed.items
          (count ∙ here, c.new.ensures.items, refl);
      services = services_next (λ p. p.service) _ _ _ _ _ _ _ inv.services
          pushed.items steps.0 refl;
    }

-- that was the last
pub returns : goal.returns
returns g c =
    let inv = c.loop-service.invariant in
    let done = c.in-None.ensures.steps.0 in
    let rest = c.loop-service.service-iterator in
    let none : into_iter_items rest ≡ [] = nil_from_length rest.rest.items
    (omega (arith, done, rest.rest.ok)) in
    let plans = c.loop-service.plans.items in
    record {
      ends = put_all _ _ _ inv.count done;
      fresh = inv.fresh;
      services = sym (append-nil (map (λ p. p.service) plans))
          ∙ ap (λ services. map (λ p. p.service) plans ++ services) (sym none)
          ∙ inv.services;
    }
