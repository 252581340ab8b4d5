use Rattle.std.proofs.Common.{◌≡◌, ◌+◌, ◌≤◌, ◌++◌, length, map}
use Rattle.std.specs.Prelude.{vec_capacity}
use Rattle.std.specs.Vec.Iter.{into_iter_items, into_iter_len}
use Rattle.live_jobs.specs.Rows.{From}
use Rattle.live_jobs.specs.Started.{Fresh}
use Rattle.live_jobs.proofs.open.new_plans.Given as goal

abbrev pub invariant-loop-service : goal.invariant-loop-service
invariant-loop-service g l = record {
  count : length l.plans.items + into_iter_len l.service-iterator ≡ length l.fn.services.items;
  room : length l.fn.services.items ≤ vec_capacity l.plans;
  fresh : From (λ e p. Fresh e p.seat) 0 l.plans.items;
  services : map (λ p. p.service) l.plans.items ++ into_iter_items l.service-iterator
      ≡ l.fn.services.items;
}
