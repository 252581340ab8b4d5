-- The seats of the writers in a row, seen by what is read of them.
use Rattle.std.proofs.Common.{◌≡◌, ◌≢◌, ℕ, zero, suc, ◌+◌, ◌<◌, ◌≤◌, Bool, List}
use Rattle.std.proofs.Common.{[], ◌∷◌, ◌++◌, length, map, Some, refl, sym, ap, ◌∙◌, subst, ⊎_elim}
use Rattle.std.proofs.Common.{arith}
use Rattle.std.proofs.lemmas.Option.{same_Some}
use Rattle.std.specs.Prelude.{slice_get, slice_set, slice_index_or}
use Rattle.std.proofs.lemmas.List.{length-map}
use native.Mathlib.Decide.{ℕ_discrete}
use mathlib.Core.Logic.{dite}
use Rattle.job_queue.specs.Delivery.{end_limit}
use Rattle.job_queue.specs.Passes.{QueuePass}
use Rattle.job_queue.specs.declared.parcel.Handed.{Handed}
use Rattle.live_jobs.specs.declared.channel.JobChannel.{JobChannel}
use Rattle.live_jobs.specs.declared.session.LeftSeat.{LeftSeat}
use Rattle.live_jobs.specs.declared.outcome.FinishedJob.{FinishedJob}
use Rattle.crossbeam_queue.specs.Passes.{IsPassOf}
use Rattle.live_jobs.specs.JobChannels.{queue_of}
use Rattle.live_jobs.specs.Seats.{left_by}
use Rattle.live_jobs.specs.Gathered.{OfChannel, AllClosed, WritersFit, RestsFit, IsRest, hands_of}
use Rattle.live_jobs.specs.Gathered.{told_of, Told, ToldBelow, ToldBefore, NoneBefore}
use Rattle.live_jobs.proofs.Rows.{get_snoc, length_snoc}
use Rattle.live_jobs.proofs.Passes.{read_at, get_set, length_set, map_set, map_set_same, map_at}

pub within : {X : Type 0} (xs : List X) (k : ℕ) (x : X) → slice_get xs k ≡ Some x → k < length xs
within [] k x e = absurd (cc)
within (y ∷ xs) zero x e = omega arith
within (y ∷ xs) (suc k) x e = let h = within xs k x e in omega arith

module _ {X : Type 0} (f : X → QueuePass) (h : X → List Bool) where
  pub writers_at : (channels : List JobChannel) (n : ℕ) (xs : List X) (g : ℕ) (x : X)
      → WritersFit channels n (map f xs) (map h xs) → g < length xs → x ≡ slice_index_or xs g x
      → (slice_get xs g ≡ Some x) × OfChannel channels g (f x) × AllClosed n (h x)
      × (g < length channels)
  writers_at channels n xs g x fit less is =
      let at = read_at xs g x less is in
      let long = length-map xs f in (
        at,
        fit.1 g (f x) (map_at f xs g x at),
        fit.2 g (h x) (map_at h xs g x at),
        omega (arith, fit.0),
      )

  pub writers_set : (channels : List JobChannel) (n : ℕ) (xs : List X) (g : ℕ) (x new : X)
      → WritersFit channels n (map f xs) (map h xs) → slice_get xs g ≡ Some x
      → OfChannel channels g (f new)
      → h new ≡ h x
      → WritersFit channels n (map f (slice_set xs g new)) (map h (slice_set xs g new))
  writers_set channels n xs g x new fit at channel same = (
    length-map (slice_set xs g new) f ∙ length_set xs g new ∙ sym (length-map xs f) ∙ fit.0,
    (λ k pass there. ⊎_elim
        (λ (t : (k ≡ g) × (f new ≡ pass)).
        subst (λ (y : ℕ × QueuePass). OfChannel channels y.0 y.1) (λ i. (sym t.0 i, t.1 i)) channel)
        (λ (t : (k ≢ g) × (slice_get (map f xs) k ≡ Some pass)). fit.1 k pass t.1)
        (get_set (map f xs) g (f new) k pass
        (ap (λ l. slice_get l k) (sym (map_set f xs g new)) ∙ there))),
    λ k closed there. fit.2 k closed
        (ap (λ l. slice_get l k) (sym (map_set_same h xs g x new at same)) ∙ there),
  )

-- ---- the first passes in a row
pub rest_at : (channels : List JobChannel) (n : ℕ) (rests : List QueuePass) (g : ℕ)
    (rest : QueuePass)
    → RestsFit channels n rests → g < length rests → rest ≡ slice_index_or rests g rest
    → (slice_get rests g ≡ Some rest) × OfChannel channels g rest × IsRest n rest
rest_at channels n rests g rest fit less is =
    let at = read_at rests g rest less is in
    let f = fit.1 g rest at in (at, f.0, f.1)

pub rests_set : (channels : List JobChannel) (n : ℕ) (rests : List QueuePass) (g : ℕ)
    (new : QueuePass)
    → RestsFit channels n rests → OfChannel channels g new → IsRest n new
    → RestsFit channels n (slice_set rests g new)
rests_set channels n rests g new fit channel is = (
  length_set rests g new ∙ fit.0,
  λ k rest there. ⊎_elim
      (λ (t : (k ≡ g) × (new ≡ rest)).
      subst (λ (y : ℕ × QueuePass). OfChannel channels y.0 y.1 × IsRest n y.1)
      (λ i. (sym t.0 i, t.1 i))
      (channel, is))
      (λ (t : (k ≢ g) × (slice_get rests k ≡ Some rest)). fit.1 k rest t.1)
      (get_set rests g new k rest there),
)

module _ {O : Type 0} (fits : O → Handed → Type 0) where
  -- one group more
  pub told_group : (n g : ℕ) (finished_lists : List (List (FinishedJob O))) (lefts : List LeftSeat)
      (hands : List (List (List Handed))) (finished now : List (FinishedJob O))
      → slice_get finished_lists g ≡ Some finished
      → now ≡ finished → hands_of lefts ≡ hands → n ≡ length lefts
      → ToldBelow fits n g now (hands_of lefts) → ToldBefore fits g finished_lists hands
      → ToldBefore fits (g + 1) finished_lists hands
  told_group n g finished_lists lefts hands finished now at is same count told before k e d handed
      jobs less there hand job =
      dite (ℕ_discrete k g)
      (λ here.
      let this : d
      ≡ finished = same_Some d finished (sym there ∙ ap (slice_get finished_lists) here ∙ at) in
      let hand' = ap (λ (l : List (List (List Handed))). slice_get l e) same ∙ hand in
      let below = within (hands_of lefts) e handed hand' in
      let long = length-map lefts left_by in
      subst (λ (x : List (FinishedJob O)). Told fits e x jobs) (is ∙ sym this)
      (told e handed jobs (omega arith) hand' (ap (slice_get handed) (sym here) ∙ job)))
      (λ other. before k e d handed jobs (omega arith) there hand job)

-- the same of the ends that nobody has
pub none_group : {O : Type 0} (n g : ℕ) (finished_lists : List (List (FinishedJob O)))
    (finished : List (FinishedJob O))
    → slice_get finished_lists g ≡ Some finished
    → ((e : ℕ) → n ≤ e → e < end_limit → told_of e finished ≡ [])
    → NoneBefore g n finished_lists → NoneBefore (g + 1) n finished_lists
none_group {O} n g finished_lists finished at none before k e d less there from below =
    dite (ℕ_discrete k g)
    (λ here.
    let this : d
    ≡ finished = same_Some d finished (sym there ∙ ap (slice_get finished_lists) here ∙ at) in
    subst (λ (x : List (FinishedJob O)). told_of e x ≡ []) (sym this) (none e from below))
    (λ other. before k e d (omega arith) there from below)

-- ---- no channel
pub rests_none : (channels : List JobChannel) (n : ℕ) (rests : List QueuePass)
    → channels ≡ [] → rests ≡ []
    → RestsFit channels n rests
rests_none channels n rests none all =
    subst (λ (x : List JobChannel × List QueuePass). RestsFit x.0 n x.1)
    (λ i. (sym none i, sym all i)) (refl, λ g rest at. absurd (cc))

-- ---- one channel more
pub rests_snoc : (channels now : List JobChannel) (channel : JobChannel) (n : ℕ)
    (rests grown : List QueuePass)
    (rest : QueuePass) → RestsFit channels n rests → now ≡ channels ++ channel ∷ []
    → grown ≡ rests ++ rest ∷ [] → IsPassOf (queue_of channel) rest → IsRest n rest
    → RestsFit now n grown
rests_snoc channels now channel n rests grown rest fit more long is none =
    subst (λ (x : List JobChannel × List QueuePass). RestsFit x.0 n x.1)
    (λ i. (sym more i, sym long i)) (
      length_snoc rests (rests ++ rest ∷ []) rest refl ∙ ap (λ k. k + 1) fit.0
          ∙ sym (length_snoc channels (channels ++ channel ∷ []) channel refl),
      λ k p at. ⊎_elim
          (λ (t : slice_get rests k ≡ Some p).
          let less = within rests k p t in
          let old = fit.1 k p t in
          let same = fit.0 in (
            (λ q there. ⊎_elim
                (λ (u : slice_get channels k ≡ Some q). old.0 q u)
                (λ (u : (k ≡ length channels) × (channel ≡ q)). let last = u.0 in
                absurd (omega arith))
                (get_snoc channels channel k q there)),
            old.1,
          ))
          (λ (t : (k ≡ length rests) × (rest ≡ p)).
          let last = t.0 in
          let same = fit.0 in (
            (λ q there. ⊎_elim
                (λ (u : slice_get channels k ≡ Some q). let less = within channels k q u in
                absurd (omega arith))
                (λ (u : (k ≡ length channels) × (channel ≡ q)).
                subst (λ (x : JobChannel × QueuePass). IsPassOf (queue_of x.0) x.1)
                (λ i. (u.1 i, t.1 i)) is)
                (get_snoc channels channel k q there)),
            subst (IsRest n) t.1 none,
          ))
          (get_snoc rests rest k p at),
    )
