-- What a writer told of one end.
use Rattle.std.proofs.Common.{◌≡◌, ◌≤◌, ◌<◌, ℕ, zero, suc, Bool, true, false, List, [], ◌∷◌, map}
use Rattle.std.proofs.Common.{Some, refl, sym, ap, ◌∙◌, subst}
use Rattle.std.proofs.lemmas.Option.{same_Some}
use Rattle.std.specs.Prelude.{slice_get, ◌==◌, cond}
use Rattle.crossbeam_queue.specs.Passes.{view}
use Rattle.job_queue.specs.declared.parcel.Handed.{Handed}
use Rattle.job_queue.specs.declared.parcel.Parcel.{Parcel}
use Rattle.job_queue.specs.declared.parcel.Parcel.TheVariants as parcels
use Rattle.job_queue.specs.declared.known.Known.{Known}
use Rattle.job_queue.specs.Parcels.{of_end, jobs_of}
use Rattle.job_queue.specs.Delivery.{TookAll, TookNone, knows, end_limit}
use Rattle.job_queue.specs.Passes.{QueuePass}
use Rattle.live_jobs.specs.declared.outcome.FinishedJob.{FinishedJob}
use Rattle.live_jobs.specs.Names.{Name}
use Rattle.live_jobs.specs.Taken.{name_of, finished_name, FitEach, Took}
use Rattle.live_jobs.specs.Gathered.{told_of, Told}

-- the jobs of one end
abbrev jobs_by : (e : ℕ) → List Handed → List Handed
jobs_by e [] = []
jobs_by e (j ∷ js) = cond (j.end == e) (j ∷ jobs_by e js) (jobs_by e js)

by_step : (b : Bool) (j : Handed) (ps : List Parcel) (js : List Handed) → js ≡ jobs_of ps
    → cond b (j ∷ js) js ≡ jobs_of (cond b (parcels.Job j ∷ ps) ps)
by_step true j ps js h = ap (λ l. j ∷ l) h
by_step false j ps js h = h

by_skip : (b : Bool) (e : ℕ) (ps : List Parcel) (js : List Handed) → js ≡ jobs_of ps
    → js ≡ jobs_of (cond b (parcels.Mark e ∷ ps) ps)
by_skip true e ps js h = h
by_skip false e ps js h = h

jobs_by_end : (e : ℕ) (taken : List Parcel) → jobs_by e (jobs_of taken) ≡ jobs_of (of_end e taken)
jobs_by_end e [] = refl
jobs_by_end e (parcels.Job j ∷ ps) =
    by_step (j.end == e) j (of_end e ps) (jobs_by e (jobs_of ps)) (jobs_by_end e ps)
jobs_by_end e (parcels.Mark x ∷ ps) =
    by_skip (x == e) x (of_end e ps) (jobs_by e (jobs_of ps)) (jobs_by_end e ps)

same_head : {X : Type 0} (x y : X) (xs ys : List X) → x ∷ xs ≡ y ∷ ys → x ≡ y
same_head x y xs ys e = cc

same_tail : {X : Type 0} (x y : X) (xs ys : List X) → x ∷ xs ≡ y ∷ ys → xs ≡ ys
same_tail x y xs ys e = cc

no_names : {X Y : Type 0} (f : X → Y) (xs : List X) → map f xs ≡ [] → xs ≡ []
no_names f [] e = refl
no_names f (x ∷ xs) e = absurd (cc)

module _ {O : Type 0} (fits : O → Handed → Type 0) where
  fit_cons : (d : FinishedJob O) (ds : List (FinishedJob O)) (j : Handed) (js : List Handed)
      → ∥ fits d.outcome j ∥₁
      → FitEach fits ds js → FitEach fits (d ∷ ds) (j ∷ js)
  fit_cons d ds j js this rest zero e i at there =
      subst (λ (x : FinishedJob O × Handed). ∥ fits x.0.outcome x.1 ∥₁)
      (λ n. (same_Some d e at n, same_Some j i there n)) this
  fit_cons d ds j js this rest (suc k) e i at there = rest k e i at there

  told_step : (b c : Bool) (d : FinishedJob O) (j : Handed) (ds : List (FinishedJob O))
      (js : List Handed) → b ≡ c
      → finished_name d ≡ name_of j → ∥ fits d.outcome j ∥₁ → map finished_name ds ≡ map name_of js
      → FitEach fits ds js
      → (map finished_name (cond b (d ∷ ds) ds) ≡ map name_of (cond c (j ∷ js) js))
      × FitEach fits (cond b (d ∷ ds) ds) (cond c (j ∷ js) js)
  told_step true true d j ds js same named this rest fit = (
    ap (λ n. n ∷ map finished_name ds) named ∙ ap (λ l. name_of j ∷ l) rest,
    fit_cons d ds j js this fit,
  )
  told_step false false d j ds js same named this rest fit = (rest, fit)
  told_step true false d j ds js same named this rest fit = absurd (cc)
  told_step false true d j ds js same named this rest fit = absurd (cc)

  told_each : (e : ℕ) (ds : List (FinishedJob O)) (js : List Handed)
      → map finished_name ds ≡ map name_of js → FitEach fits ds js
      → (map finished_name (told_of e ds) ≡ map name_of (jobs_by e js))
      × FitEach fits (told_of e ds) (jobs_by e js)
  told_each e [] [] named fit = (refl, fit)
  told_each e [] (j ∷ js) named fit = absurd (cc)
  told_each e (d ∷ ds) [] named fit = absurd (cc)
  told_each e (d ∷ ds) (j ∷ js) named fit =
      let name = same_head (finished_name d) (name_of j) (map finished_name ds)
      (map name_of js) named in
      let rest = told_each e ds js
      (same_tail (finished_name d) (name_of j) (map finished_name ds) (map name_of js) named)
      (λ k. fit (suc k)) in
      told_step (d.end == e) (j.end == e) d j (told_of e ds) (jobs_by e js)
      (ap (λ (n : Name). n.end == e) name) name (fit 0 d j refl refl) rest.0 rest.1

  -- what was told of an end whose parcels were these
  pub told_is : (e : ℕ) (pass : QueuePass) (finished : List (FinishedJob O)) (closed : List Bool)
      (parcels : List Parcel) → Took fits pass finished closed
      → of_end e (view pass).taken ≡ parcels → Told fits e finished (jobs_of parcels)
  told_is e pass finished closed parcels took is =
      subst (λ (js : List Handed). (map finished_name (told_of e finished) ≡ map name_of js)
      × FitEach fits (told_of e finished) js)
      (jobs_by_end e (view pass).taken ∙ ap jobs_of is)
      (told_each e finished (jobs_of (view pass).taken) took.told took.fit)

  -- an end whose closing mark was taken
  pub told_whole : (e : ℕ) (pass : QueuePass) (finished : List (FinishedJob O)) (closed : List Bool)
      (own : Known) → Took fits pass finished closed
      → slice_get closed e ≡ Some true → TookAll e (view pass) own
      → Told fits e finished (jobs_of own.handed)
  told_whole e pass finished closed own took at all =
      told_is e pass finished closed own.handed took (all (took.marks e at))

  -- the ends that nobody has
  pub told_none : (n : ℕ) (pass : QueuePass) (finished : List (FinishedJob O)) (closed : List Bool)
      (first : Known)
      → Took fits pass finished closed → TookNone (view pass) first
      → first ≡ knows n end_limit [] false []
      → (e : ℕ) → n ≤ e → e < end_limit → told_of e finished ≡ []
  told_none n pass finished closed first took none rest e from below =
      no_names finished_name (told_of e finished)
      (told_is e pass finished closed [] took (none e
      (subst (λ (m : ℕ). m ≤ e) (sym (ap (λ (k : Known). k.low) rest)) from)
      (subst (λ (m : ℕ). e < m) (sym (ap (λ (k : Known). k.high) rest)) below))).0
