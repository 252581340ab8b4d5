-- What ends that are served in threads come to. No public contract cites it.
use Rattle.std.specs.Prelude.{◌≡◌, ℕ, List, length, map, Some, slice_get}
use Rattle.job_queue.specs.declared.parcel.Handed.{Handed}
use Rattle.live_jobs.specs.Desks.{posts_in}
use Rattle.live_jobs.specs.Gathered.{AllTold, NoneElse, hands_of, kept_by_all}
use Rattle.live_jobs.specs.Started.{AllKept}
use Rattle.live_jobs.specs.declared.gather.Seats.{Seats}
use Rattle.live_jobs.specs.declared.gather.Totals.{Totals}
use Rattle.live_jobs.specs.declared.outcome.Outcome.{Ghosts}
use Rattle.live_jobs.specs.declared.serve.SeatsError.{SeatsError}
use Rattle.live_jobs.specs.declared.serve.SeatsError.TheVariants as seats
use Rattle.relay_live.specs.Sessions.{HasLists, IsNothing}
use Rattle.relay_live.specs.declared.running.LiveError.{LiveError}
use Rattle.relay_live.specs.declared.running.LiveError.TheVariants as errors

-- what each end keeps is right as long as it has handed nothing over
abbrev pub AreNew : {V : Type 0} → (V → (end count : ℕ) → List (List Handed) → Type 0) → List V
    → Type 0
AreNew {V} fits ends =
    (e : ℕ) (end : V) (jobs : List (List Handed)) → slice_get ends e ≡ Some end → IsNothing jobs
    → fits end e 0 jobs

-- All seats have come back of these ends, with a list for each of so many groups, and of a writer
-- for each group. Of each end each job was told once, in order, with an outcome that fits it, and
-- of no other end anything. The ends have the marks that they had, and what each keeps is right;
-- the totals are those of the writers.
pub record AreServed {L O V M : Type 0} {o : Ghosts O}
    (fits : V → (end count : ℕ) → List (List Handed) → Type 0) (mark : V → M) (groups : ℕ)
    (ends : List V) (seats : Seats L O V o) (totals : Totals)
    : Type 0 where
  pub lefts : length seats.lefts.items ≡ length ends
  pub lists : HasLists groups (hands_of seats.lefts.items)
  pub writers : length seats.writers.items ≡ groups
  pub jobs : AllTold o.fits (map (λ w. w.finished.items) seats.writers.items)
      (hands_of seats.lefts.items)
  pub none : NoneElse (length ends) (map (λ w. w.finished.items) seats.writers.items)
  pub marks : map mark seats.services.items ≡ map mark ends
  pub kept : AllKept fits (hands_of seats.lefts.items) seats.services.items
  pub accepted : totals.accepted
      ≡ kept_by_all o.kept (map (λ w. w.finished.items) seats.writers.items)
  pub posted : posts_in totals.posted ≡ totals.accepted

-- why nothing is counted where no seats come back
abbrev pub error_of : SeatsError → LiveError
error_of seats.Memory = errors.Memory
error_of seats.NoThread = errors.NoThread
