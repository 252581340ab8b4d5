use Rattle.std.proofs.Common.{◌≡◌, ◌<◌, ◌≤◌, ◌++◌, [], ◌∷◌, ℕ, Some, length, map}
use Rattle.std.specs.Prelude.{slice_get}
use Rattle.crossbeam_queue.specs.Passes.{IsPassOf}
use Rattle.live_jobs.specs.Gathered.{IsRest}
use Rattle.live_jobs.specs.JobChannels.{queue_of}
use Rattle.live_jobs.specs.Started.{IsUnused}
use Rattle.live_jobs.specs.declared.start.Plan.{Plan}
use Rattle.live_jobs.proofs.open.give_passes.Given as goal

abbrev pub invariant-loop-end : goal.invariant-loop-end
invariant-loop-end g l = record {
  long : length l.plans.items ≡ length l.fn.plans.items;
  services : map (λ s. s.service) l.plans.items ≡ map (λ s. s.service) l.fn.plans.items;
  first : IsPassOf (queue_of l.channel) l.first × IsRest l.end l.first;
  finished : (k : ℕ) (s : Plan _) → k < l.end → slice_get l.plans.items k ≡ Some s
      → IsUnused (l.channels ++ l.channel ∷ []) k s.seat;
  todo : (k : ℕ) (s : Plan _) → l.end ≤ k → slice_get l.plans.items k ≡ Some s
      → IsUnused l.channels k s.seat;
}
