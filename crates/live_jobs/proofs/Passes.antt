-- Passes in a row, one for each group.
use Rattle.std.proofs.Common.{◌≡◌, ◌≢◌, ◌⊎◌, inl, inr, ℕ, zero, suc, ◌+◌, ◌<◌, Bool, true, false}
use Rattle.std.proofs.Common.{List, [], ◌∷◌, ◌++◌, length, map, Some, refl, sym, ap, ◌∙◌, subst}
use Rattle.std.proofs.Common.{⊎_elim, arith}
use lib.Dec.{ltb}
use Rattle.std.proofs.lemmas.Bool.Decides.{nat_tests}
use Rattle.std.proofs.lemmas.Option.{same_Some, slice_get-map}
use Rattle.std.specs.Prelude.{option_map, slice_get, slice_set, slice_index_or}
use Rattle.crossbeam_queue.specs.Passes.{view, IsPassOf}
use Rattle.job_queue.specs.declared.parcel.Handed.{Handed}
use Rattle.job_queue.specs.declared.parcel.Parcel.{Parcel}
use Rattle.job_queue.specs.declared.parcel.Parcel.TheVariants as parcels
use Rattle.job_queue.specs.declared.known.Known.{Known}
use Rattle.job_queue.specs.Parcels.{has_mark, jobs_of}
use Rattle.job_queue.specs.Delivery.{end_knows, knows, OfEnd, HasHanded}
use Rattle.job_queue.specs.Passes.{QueuePass}
use Rattle.live_jobs.specs.Seats.{PassesFit, handed_of, jobs_in}
use Rattle.live_jobs.specs.Gathered.{OfChannel}
use Rattle.live_jobs.specs.JobChannels.{queue_of}
use Rattle.live_jobs.specs.declared.channel.JobChannel.{JobChannel}
use Rattle.live_jobs.proofs.Rows.{get_snoc, length_snoc}

module _ {X : Type 0} where
  -- what an index reads
  pub read_at : (xs : List X) (k : ℕ) (x : X) → k < length xs → x ≡ slice_index_or xs k x
      → slice_get xs k ≡ Some x
  read_at [] k x h e = absurd (omega arith)
  read_at (y ∷ xs) zero x h e = ap Some (sym e)
  read_at (y ∷ xs) (suc k) x h e = read_at xs k x (omega arith) e

  pub get_set : (xs : List X) (k : ℕ) (a : X) (j : ℕ) (b : X) → slice_get (slice_set xs k a) j
      ≡ Some b → ((j ≡ k) × (a ≡ b)) ⊎ ((j ≢ k) × (slice_get xs j ≡ Some b))
  get_set [] k a j b e = absurd (cc)
  get_set (x ∷ xs) zero a zero b e = inl (refl, cc)
  get_set (x ∷ xs) zero a (suc j) b e = inr ((λ h. omega arith), e)
  get_set (x ∷ xs) (suc k) a zero b e = inr ((λ h. omega arith), e)
  get_set (x ∷ xs) (suc k) a (suc j) b e =
      ⊎_elim (λ (t : (j ≡ k) × (a ≡ b)). inl (ap suc t.0, t.1))
      (λ (t : (j ≢ k) × (slice_get xs j ≡ Some b)). let n = t.0 in
      inr ((λ h. n (omega arith)), t.1)) (get_set xs k a j b e)

  pub length_set : (xs : List X) (k : ℕ) (a : X) → length (slice_set xs k a) ≡ length xs
  length_set [] k a = refl
  length_set (x ∷ xs) zero a = refl
  length_set (x ∷ xs) (suc k) a = ap suc (length_set xs k a)

  pub set_same : (xs : List X) (k : ℕ) (a : X) → slice_get xs k ≡ Some a → slice_set xs k a ≡ xs
  set_same [] k a e = refl
  set_same (x ∷ xs) zero a e = ap (λ y. y ∷ xs) (cc)
  set_same (x ∷ xs) (suc k) a e = ap (λ l. x ∷ l) (set_same xs k a e)

module _ {X Y : Type 0} (f : X → Y) where
  pub map_set : (xs : List X) (k : ℕ) (a : X)
      → map f (slice_set xs k a) ≡ slice_set (map f xs) k (f a)
  map_set [] k a = refl
  map_set (x ∷ xs) zero a = refl
  map_set (x ∷ xs) (suc k) a = ap (λ l. f x ∷ l) (map_set xs k a)

  pub map_at : (xs : List X) (k : ℕ) (a : X) → slice_get xs k ≡ Some a
      → slice_get (map f xs) k ≡ Some (f a)
  map_at xs k a e = slice_get-map f xs k ∙ ap (option_map f) e

  pub map_index : (xs : List X) (k : ℕ) (a : X) (d : Y) → slice_get xs k ≡ Some a
      → slice_index_or (map f xs) k d ≡ f a
  map_index [] k a d e = absurd (cc)
  map_index (x ∷ xs) zero a d e = ap f (cc)
  map_index (x ∷ xs) (suc k) a d e = map_index xs k a d e

  -- a change that the map doesn't see
  pub map_set_same : (xs : List X) (k : ℕ) (a b : X) → slice_get xs k ≡ Some a → f b ≡ f a
      → map f (slice_set xs k b) ≡ map f xs
  map_set_same xs k a b e same = map_set xs k b ∙ ap (slice_set (map f xs) k) same
      ∙ set_same (map f xs) k (f a) (map_at xs k a e)

module _ where
  pub fits_at : (channels : List JobChannel) (end : ℕ) (marked : ℕ → Bool) (passes : List QueuePass)
      (g : ℕ) (channel : JobChannel) (pass : QueuePass) → PassesFit channels end marked passes
      → g < length channels → channel ≡ slice_index_or channels g channel
      → pass ≡ slice_index_or passes g pass
      → (slice_get passes g ≡ Some pass) × IsPassOf (queue_of channel) pass
      × (view pass ≡ end_knows end (view pass).handed)
      × (has_mark (view pass).handed ≡ marked g)
  fits_at channels end marked passes g channel pass fits h l p =
      let here = read_at passes g pass (omega (arith, fits.0)) p in
      let is = fits.1 g channel pass (read_at channels g channel h l) here in
      (here, is.0, is.1, is.2)

  pub fits_set : (channels : List JobChannel) (end : ℕ) (marked now : ℕ → Bool)
      (passes : List QueuePass) (g : ℕ) (channel : JobChannel) (pass : QueuePass)
      → PassesFit channels end marked passes
      → g < length channels → channel ≡ slice_index_or channels g channel
      → IsPassOf (queue_of channel) pass → view pass ≡ end_knows end (view pass).handed
      → has_mark (view pass).handed ≡ now g → ((k : ℕ) → k ≢ g → marked k ≡ now k)
      → PassesFit channels end now (slice_set passes g pass)
  fits_set channels end marked now passes g channel pass fits h l is own mark else = (
    length_set passes g pass ∙ fits.0,
    λ k q p there at. ⊎_elim
        (λ (t : (k ≡ g) × (pass ≡ p)).
        let same : q ≡ channel = line_same k q t.0 there in
        subst (λ (x : ℕ × JobChannel × QueuePass). IsPassOf (queue_of x.1) x.2
        × (view x.2 ≡ end_knows end (view x.2).handed) × (has_mark (view x.2).handed ≡ now x.0))
        (λ i. (sym t.0 i, sym same i, t.1 i)) (is, own, mark))
        (λ (t : (k ≢ g) × (slice_get passes k ≡ Some p)). let old = fits.1 k q p there t.1 in
        (old.0, old.1, old.2 ∙ else k t.0))
        (get_set passes g pass k p at),
  )
    where
      line_same : (k : ℕ) (q : JobChannel) → k ≡ g → slice_get channels k ≡ Some q → q ≡ channel
      line_same k q e there = let a = read_at channels g channel h l in let b =
          ap (slice_get channels) (sym e) ∙ there in cc

-- ---- marks and jobs after one parcel more
pub unmarked_snoc : (a : List Parcel) (j : Handed) → has_mark a ≡ false
    → has_mark (a ++ parcels.Job j ∷ []) ≡ false
unmarked_snoc [] j h = refl
unmarked_snoc (parcels.Job x ∷ a) j h = unmarked_snoc a j h
unmarked_snoc (parcels.Mark e ∷ a) j h = h

pub marked_snoc : (a : List Parcel) (e : ℕ) → has_mark (a ++ parcels.Mark e ∷ []) ≡ true
marked_snoc [] e = refl
marked_snoc (parcels.Job x ∷ a) e = marked_snoc a e
marked_snoc (parcels.Mark x ∷ a) e = refl

pub jobs_snoc : (a : List Parcel) (j : Handed) → jobs_of (a ++ parcels.Job j ∷ [])
    ≡ jobs_of a ++ j ∷ []
jobs_snoc [] j = refl
jobs_snoc (parcels.Job x ∷ a) j = ap (λ l. x ∷ l) (jobs_snoc a j)
jobs_snoc (parcels.Mark e ∷ a) j = jobs_snoc a j

pub jobs_marked : (a : List Parcel) (e : ℕ) → jobs_of (a ++ parcels.Mark e ∷ []) ≡ jobs_of a
jobs_marked [] e = refl
jobs_marked (parcels.Job x ∷ a) e = ap (λ l. x ∷ l) (jobs_marked a e)
jobs_marked (parcels.Mark x ∷ a) e = jobs_marked a e

pub own_put : (w : Known) (e : ℕ) (p : List Parcel) → w ≡ end_knows e p → (w ≡ end_knows e w.handed)
    × (w.handed ≡ p)
own_put w e p is =
    (is ∙ ap (end_knows e) (sym (ap (λ (v : Known). v.handed) is)), ap (λ (v : Known). v.handed) is)

module _ where
  pub fits_marks : (channels : List JobChannel) (end : ℕ) (marked now : ℕ → Bool)
      (passes : List QueuePass) → PassesFit channels end marked passes
      → ((k : ℕ) → k < length channels → marked k ≡ now k) → PassesFit channels end now passes
  fits_marks channels end marked now passes fits same = (
    fits.0,
    λ k q p there at. let old = fits.1 k q p there at in
        (old.0, old.1, old.2 ∙ same k (within channels k q there)),
  )
    where
      within : {X : Type 0} (xs : List X) (k : ℕ) (x : X) → slice_get xs k ≡ Some x → k < length xs
      within [] k x e = absurd (cc)
      within (y ∷ xs) zero x e = omega arith
      within (y ∷ xs) (suc k) x e = let h = within xs k x e in omega arith

  -- the pass with number g has pushed its mark, as those below had
  pub mark_step : (channels : List JobChannel) (end : ℕ) (passes : List QueuePass) (g : ℕ)
      (channel : JobChannel) (pass new : QueuePass) → PassesFit channels end (λ k. ltb k g) passes
      → g < length channels → channel ≡ slice_index_or channels g channel
      → pass ≡ slice_index_or passes g pass → IsPassOf (queue_of channel) new
      → view new ≡ end_knows end ((view pass).handed ++ parcels.Mark end ∷ [])
      → PassesFit channels end (λ k. ltb k (g + 1)) (slice_set passes g new)
      × (handed_of (slice_set passes g new) ≡ handed_of passes)
  mark_step channels end passes g channel pass new fits h l p is now =
      let own = own_put (view new) end ((view pass).handed ++ parcels.Mark end ∷ []) now in
      let at = read_at passes g pass (omega (arith, fits.0)) p in (
        fits_set channels end (λ k. ltb k g) (λ k. ltb k (g + 1)) passes g channel new
            fits h l is own.0
            (ap has_mark own.1 ∙ marked_snoc (view pass).handed end ∙ sym (below g))
            (λ k n. beside k g n),
        map_set_same jobs_in passes g pass
            new at (ap jobs_of own.1 ∙ jobs_marked (view pass).handed end),
      )
    where
      below : (n : ℕ) → ltb n (n + 1) ≡ true
      below n = grind (arith, nat_tests)

      beside : (k n : ℕ) → k ≢ n → ltb k n ≡ ltb k (n + 1)
      beside k n ne = grind (arith, nat_tests)

  -- the pass with number g has handed a job over
  pub job_step : (channels : List JobChannel) (end : ℕ) (passes : List QueuePass) (g : ℕ)
      (channel : JobChannel) (pass new : QueuePass) (job : Handed)
      → PassesFit channels end (λ k. false) passes
      → g < length channels → channel ≡ slice_index_or channels g channel
      → pass ≡ slice_index_or passes g pass → IsPassOf (queue_of channel) new
      → view new ≡ end_knows end ((view pass).handed ++ parcels.Job job ∷ [])
      → PassesFit channels end (λ k. false) (slice_set passes g new)
      × (handed_of (slice_set passes g new)
      ≡ slice_set (handed_of passes) g (slice_index_or (handed_of passes) g [] ++ job ∷ []))
  job_step channels end passes g channel pass new job fits h l p is now =
      let own = own_put (view new) end ((view pass).handed ++ parcels.Job job ∷ []) now in
      let at = fits_at channels end (λ k. false) passes g channel pass fits h l p in (
        fits_set channels end (λ k. false) (λ k. false) passes g channel new fits h l is own.0
            (ap has_mark own.1 ∙ unmarked_snoc (view pass).handed job at.3) (λ k n. refl),
        map_set jobs_in passes g new
            ∙ ap (slice_set (handed_of passes) g)
            (ap jobs_of own.1 ∙ jobs_snoc (view pass).handed job
            ∙ ap (λ js. js ++ job ∷ []) (sym (map_index jobs_in passes g pass [] at.0))),
      )

  -- nothing was handed over
  pub same_step
      : (channels : List JobChannel) (end : ℕ) (marked : ℕ → Bool) (passes : List QueuePass) (g : ℕ)
      (channel : JobChannel) (pass new : QueuePass) → PassesFit channels end marked passes
      → g < length channels → channel ≡ slice_index_or channels g channel
      → pass ≡ slice_index_or passes g pass → IsPassOf (queue_of channel) new
      → view new ≡ view pass
      → PassesFit channels end marked (slice_set passes g new)
      × (handed_of (slice_set passes g new) ≡ handed_of passes)
  same_step channels end marked passes g channel pass new fits h l p is now =
      let at = fits_at channels end marked passes g channel pass fits h l p in
      let put = ap (λ (v : Known). v.handed) now in (
        fits_set channels end marked marked passes g channel new fits h l is
            (now ∙ at.2 ∙ ap (end_knows end) (sym put)) (ap has_mark put ∙ at.3) (λ k n. refl),
        map_set_same jobs_in passes g pass new at.0 (ap jobs_of put),
      )

pub jobs_at : (passes : List QueuePass) (g : ℕ) (pass : QueuePass) (jobs : List Handed)
    → slice_get passes g ≡ Some pass → slice_get (handed_of passes) g ≡ Some jobs
    → jobs ≡ jobs_in pass
jobs_at passes g pass jobs at is = let there = map_at jobs_in passes g pass at in cc

pub of_channel : (channels : List JobChannel) (g : ℕ) (channel : JobChannel) (pass : QueuePass)
    → g < length channels → channel ≡ slice_index_or channels g channel
    → IsPassOf (queue_of channel) pass → OfChannel channels g pass
of_channel channels g channel pass h l is other there =
    let same : channel
    ≡ other = same_Some channel other (sym (read_at channels g channel h l) ∙ there) in
    subst (λ (q : JobChannel). IsPassOf (queue_of q) pass) same is

-- ---- one group more
pub fits_snoc : (channels : List JobChannel) (end : ℕ) (passes now : List QueuePass)
    (channel : JobChannel) (pass : QueuePass) → PassesFit channels end (λ g. false) passes
    → now ≡ passes ++ pass ∷ [] → IsPassOf (queue_of channel) pass → view pass ≡ end_knows end []
    → PassesFit (channels ++ channel ∷ []) end (λ g. false) now
fits_snoc channels end passes now channel pass fits grown is fresh =
    subst (λ (ps : List QueuePass). PassesFit (channels ++ channel ∷ []) end (λ g. false) ps)
    (sym grown) (
      length_snoc passes (passes ++ pass ∷ []) pass refl ∙ ap (λ n. n + 1) fits.0
          ∙ sym (length_snoc channels (channels ++ channel ∷ []) channel refl),
      λ k q p there at. ⊎_elim
          (λ (t : slice_get channels k ≡ Some q). ⊎_elim
          (λ (u : slice_get passes k ≡ Some p). fits.1 k q p t u)
          (λ (u : (k ≡ length passes) × (pass ≡ p)). let h = within channels k q t in
          let same = fits.0 in let last = u.0 in absurd (omega arith))
          (get_snoc passes pass k p at))
          (λ (t : (k ≡ length channels) × (channel ≡ q)). ⊎_elim
          (λ (u : slice_get passes k ≡ Some p). let h = within passes k p u in let same = fits.0 in
          let last = t.0 in absurd (omega arith))
          (λ (u : (k ≡ length passes) × (pass ≡ p)).
          let own = own_put (view pass) end [] fresh in
          subst (λ (x : JobChannel × QueuePass). IsPassOf (queue_of x.0) x.1
          × (view x.1 ≡ end_knows end (view x.1).handed) × (has_mark (view x.1).handed ≡ false))
          (λ i. (t.1 i, u.1 i)) (is, own.0, ap has_mark own.1))
          (get_snoc passes pass k p at))
          (get_snoc channels channel k q there),
    )
  where
    within : {X : Type 0} (xs : List X) (k : ℕ) (x : X) → slice_get xs k ≡ Some x → k < length xs
    within [] k x e = absurd (cc)
    within (y ∷ xs) zero x e = omega arith
    within (y ∷ xs) (suc k) x e = let h = within xs k x e in omega arith

-- ---- what an end's pass knows after one parcel more
pub handed_more : (end : ℕ) (k : Known) (p : Parcel) (after : Known) → OfEnd end k
    → HasHanded k p after
    → after ≡ end_knows end (k.handed ++ p ∷ [])
handed_more end k p after own is =
    is ∙ ap (λ (v : Known). knows v.low v.high (k.handed ++ p ∷ []) v.takes v.taken) own
