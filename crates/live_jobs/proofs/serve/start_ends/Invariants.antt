use Rattle.std.proofs.Common.{◌≡◌, ◌+◌, ◌≤◌, ◌++◌, length, map}
use Rattle.std.specs.Prelude.{vec_capacity}
use Rattle.std.specs.Vec.Iter.{into_iter_items, into_iter_len}
use Rattle.live_jobs.specs.Rows.{From}
use Rattle.live_jobs.specs.Seats.{count_of, handed_by}
use Rattle.live_jobs.specs.Started.{Open, Serves}
use Rattle.live_jobs.proofs.serve.start_ends.Given as goal

abbrev pub invariant-loop-plan : goal.invariant-loop-plan
invariant-loop-plan g l = record {
  count : length l.serving.items + into_iter_len l.left ≡ length l.fn.plans.items;
  room : (length l.fn.plans.items ≤ vec_capacity l.serving)
      × (length l.fn.plans.items ≤ length l.leaves.items);
  todo : From (λ n p. Open l.channels n p.seat) (length l.serving.items) (into_iter_items l.left);
  kept : From (λ n p. g.V.Accounts.fits p.service n (count_of p.seat) (handed_by p.seat))
      (length l.serving.items) (into_iter_items l.left);
  marks : map (λ h. g.V.Accounts.mark h.promise.service.value) l.serving.items
      ++ map (λ p. g.V.Accounts.mark p.service) (into_iter_items l.left)
      ≡ map (λ p. g.V.Accounts.mark p.service) l.fn.plans.items;
  fit : From (λ n h. Serves l.channels n h.promise.channels.now h.promise.end) 0
      l.serving.items;
}

abbrev pub decreases-loop-plan : goal.decreases-loop-plan
decreases-loop-plan g l = into_iter_len l.left
