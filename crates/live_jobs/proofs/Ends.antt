-- The seats that came back, as the comparison reads them.
use Rattle.std.proofs.Common.{◌≡◌, ℕ, Bool, List, length, map}
use Rattle.std.proofs.Common.{sym, ◌∙◌, subst}
use Rattle.std.proofs.lemmas.List.{length-map}
use Rattle.job_queue.specs.Passes.{QueuePass}
use Rattle.live_jobs.specs.Gathered.{OfChannel, AllClosed, LeftsFit, WritersFit}
use Rattle.live_jobs.specs.Rows.{From}
use Rattle.live_jobs.specs.Started.{Ended, Left}
use Rattle.live_jobs.specs.declared.channel.JobChannel.{JobChannel}
use Rattle.live_jobs.specs.declared.session.LeftSeat.{LeftSeat}
use Rattle.live_jobs.proofs.Rows.{zero_add}
use Rattle.news_terms.proofs.ListPlaces.{mapped_at}

pub lefts_fit : (channels : List JobChannel) (lefts : List LeftSeat)
    → From (λ e l. Left channels e l) 0 lefts
    → LeftsFit channels lefts
lefts_fit channels lefts all e left at =
    subst (λ (k : ℕ). Left channels k left) (zero_add e) (all e left at)

pub writers_fit : {X : Type 0} (f : X → QueuePass) (lent : X → Bool) (h : X → List Bool)
    (channels : List JobChannel) (n : ℕ) (xs : List X) (passes : List QueuePass)
    (flags : List (List Bool))
    → length xs ≡ length channels → From (λ g w. Ended channels n g (f w) (lent w) (h w)) 0 xs
    → passes ≡ map f xs → flags ≡ map h xs → WritersFit channels n passes flags
writers_fit {X} f lent h channels n xs passes flags long all is_f is_h =
    subst (λ (y : List QueuePass × List (List Bool)). WritersFit channels n y.0 y.1)
    (λ i. (sym is_f i, sym is_h i)) (
      length-map xs f ∙ long,
      (λ g pass at.
          let x = mapped_at f xs g pass at in
          subst (λ (y : ℕ × QueuePass). OfChannel channels y.0 y.1) (λ i. (zero_add g i, x.2 i))
          (all g x.0 x.1).0),
      λ g closed at.
          let x = mapped_at h xs g closed at in subst (AllClosed n) x.2 (all g x.0 x.1).1,
    )
