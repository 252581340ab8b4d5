-- The seats of the ends in a row.
use Rattle.std.proofs.Common.{◌≡◌, ◌≢◌, ℕ, ◌+◌, ◌<◌, List, length}
use Rattle.std.proofs.Common.{Some, sym, ap, ◌∙◌, subst, ⊎_elim, arith}
use Rattle.std.proofs.lemmas.Option.{same_Some}
use Rattle.std.specs.Prelude.{slice_get, slice_set, slice_index_or}
use native.Mathlib.Decide.{ℕ_discrete}
use mathlib.Core.Logic.{dite}
use Rattle.job_queue.specs.declared.parcel.Handed.{Handed}
use Rattle.live_jobs.specs.declared.channel.JobChannel.{JobChannel}
use Rattle.live_jobs.specs.declared.session.LeftSeat.{LeftSeat}
use Rattle.live_jobs.specs.declared.outcome.FinishedJob.{FinishedJob}
use Rattle.live_jobs.specs.Seats.{HasLeft, left_end, left_by}
use Rattle.live_jobs.specs.Gathered.{LeftsFit, hands_of, Told, ToldBelow}
use Rattle.live_jobs.proofs.Passes.{read_at, get_set, map_set_same, map_at}

pub left_at : (channels : List JobChannel) (lefts : List LeftSeat) (e : ℕ) (left : LeftSeat)
    → LeftsFit channels lefts → e < length lefts → left ≡ slice_index_or lefts e left
    → (slice_get lefts e ≡ Some left) × (left_end left ≡ e) × HasLeft channels left
left_at channels lefts e left fit h is =
    let at = read_at lefts e left h is in let f = fit e left at in (at, f.0, f.1)

pub lefts_set : (channels : List JobChannel) (lefts : List LeftSeat) (e : ℕ) (new : LeftSeat)
    → LeftsFit channels lefts → left_end new ≡ e → HasLeft channels new
    → LeftsFit channels (slice_set lefts e new)
lefts_set channels lefts e new fit end is k left at =
    ⊎_elim
    (λ (t : (k ≡ e) × (new ≡ left)).
    subst (λ (x : ℕ × LeftSeat). (left_end x.1 ≡ x.0) × HasLeft channels x.1)
    (λ i. (sym t.0 i, t.1 i)) (end, is))
    (λ (t : (k ≢ e) × (slice_get lefts k ≡ Some left)). fit k left t.1)
    (get_set lefts e new k left at)

pub hands_set : (lefts : List LeftSeat) (e : ℕ) (left new : LeftSeat)
    → slice_get lefts e ≡ Some left
    → left_by new ≡ left_by left → hands_of (slice_set lefts e new) ≡ hands_of lefts
hands_set lefts e left new at same = map_set_same left_by lefts e left new at same

pub hand_at : (lefts : List LeftSeat) (e : ℕ) (left : LeftSeat) (hands : List (List (List Handed)))
    → slice_get lefts e ≡ Some left → hands_of lefts ≡ hands
    → slice_get hands e ≡ Some (left_by left)
hand_at lefts e left hands at is =
    ap (λ (l : List (List (List Handed))). slice_get l e) (sym is) ∙ map_at left_by lefts e left at

module _ {O : Type 0} (fits : O → Handed → Type 0) where
  -- one end more
  pub told_next : (n g : ℕ) (finished : List (FinishedJob O)) (hands : List (List (List Handed)))
      (h : List (List Handed)) → slice_get hands n ≡ Some h
      → ((jobs : List Handed) → slice_get h g ≡ Some jobs → Told fits n finished jobs)
      → ToldBelow fits n g finished hands → ToldBelow fits (n + 1) g finished hands
  told_next n g finished hands h at told below e handed jobs less there job = dite (ℕ_discrete e n)
      (λ is.
      let same : h ≡ handed = same_Some h handed (sym at ∙ ap (slice_get hands) (sym is) ∙ there) in
      subst (λ (k : ℕ). Told fits k finished jobs) (sym is)
      (told jobs (ap (λ (l : List (List Handed)). slice_get l g) same ∙ job)))
      (λ other. below e handed jobs (omega arith) there job)

  pub told_same : (e n : ℕ) (finished now : List (FinishedJob O)) (jobs : List Handed) → e ≡ n
      → finished ≡ now
      → Told fits e finished jobs → Told fits n now jobs
  told_same e n finished now jobs same is told =
      subst (λ (x : ℕ × List (FinishedJob O)). Told fits x.0 x.1 jobs) (λ i. (same i, is i)) told
