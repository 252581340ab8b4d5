-- An end that has handed nothing over, after one channel more.
use Rattle.std.proofs.Common.{◌≡◌, ℕ, List, [], ◌∷◌, ◌++◌, length, Some, sym, ap, ◌∙◌}
use Rattle.std.specs.Prelude.{slice_get}
use Rattle.std.proofs.lemmas.List.{map-append}
use Rattle.crossbeam_queue.specs.Passes.{view}
use Rattle.job_queue.specs.Delivery.{end_knows}
use Rattle.job_queue.specs.Parcels.{jobs_of}
use Rattle.job_queue.specs.Passes.{QueuePass}
use Rattle.job_queue.specs.declared.known.Known.{Known}
use Rattle.job_queue.specs.declared.parcel.Handed.{Handed}
use Rattle.live_jobs.specs.Seats.{handed_of, jobs_in}
use Rattle.live_jobs.specs.Started.{Fresh, IsUnused, no_jobs}
use Rattle.live_jobs.specs.declared.channel.JobChannel.{JobChannel}
use Rattle.live_jobs.specs.declared.session.SessionSeat.{SessionSeat}

pub unused_snoc
    : (channels : List JobChannel) (channel : JobChannel) (end : ℕ) (passes now : List QueuePass)
    (pass : QueuePass) → handed_of passes ≡ no_jobs channels → now ≡ passes ++ pass ∷ []
    → view pass ≡ end_knows end [] → handed_of now ≡ no_jobs (channels ++ channel ∷ [])
unused_snoc channels channel end passes now pass unused grown fresh =
    ap handed_of grown
    ∙ map-append jobs_in passes (pass ∷ [])
    ∙ ap (λ (jobs : List (List Handed)). jobs ++ jobs_in pass ∷ []) unused
    ∙ ap (λ (v : Known). no_jobs channels ++ jobs_of v.handed ∷ []) fresh
    ∙ sym (map-append (λ (l : JobChannel). []) channels (channel ∷ []))

-- without a channel, an end that has handed nothing over
pub fresh_unused : (channels : List JobChannel) (e : ℕ) (seat : SessionSeat)
    → channels ≡ [] → Fresh e seat
    → IsUnused channels e seat
fresh_unused channels e seat none fresh = (
  (
    fresh.0,
    (
      ap length fresh.1 ∙ sym (ap length none),
      λ g channel pass there at. absurd (empty g channel there),
    ),
  ),
  fresh.2,
  ap handed_of fresh.1 ∙ sym (ap no_jobs none),
)
  where
    empty : (g : ℕ) (channel : JobChannel) → slice_get channels g ≡ Some channel → ⊥
    empty g channel there = let at =
        ap (λ (ls : List JobChannel). slice_get ls g) (sym none) ∙ there in cc
