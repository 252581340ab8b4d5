-- What a writer took, after one parcel more.
use Rattle.std.proofs.Common.{◌≡◌, ◌≢◌, ℕ, zero, suc, ◌+◌, ◌<◌, ◌≤◌, Bool, true, false, List, []}
use Rattle.std.proofs.Common.{◌∷◌, ◌++◌, length, map, Some, refl, sym, ap, ◌∙◌, subst, ⊎_elim}
use Rattle.std.proofs.Common.{arith, true≢false}
use Rattle.std.proofs.lemmas.Option.{same_Some}
use Rattle.std.specs.Prelude.{replicate, slice_get, slice_set}
use Rattle.std.proofs.lemmas.List.{length-map}
use native.Mathlib.Decide.{ℕ_discrete}
use Rattle.crossbeam_queue.specs.Passes.{view}
use Rattle.job_queue.specs.declared.parcel.Handed.{Handed}
use Rattle.job_queue.specs.declared.parcel.Parcel.{Parcel}
use Rattle.job_queue.specs.declared.parcel.Parcel.TheVariants as parcels
use Rattle.job_queue.specs.declared.known.Known.{Known}
use Rattle.job_queue.specs.Parcels.{end_of, of_end, has_mark, jobs_of}
use Rattle.job_queue.specs.Delivery.{OfWriter, HasTaken, writer_knows}
use Rattle.job_queue.specs.Passes.{QueuePass}
use Rattle.job_queue.proofs.Lists.{of_end_snoc, of_end_snoc_else}
use Rattle.live_jobs.specs.declared.outcome.FinishedJob.{FinishedJob}
use Rattle.live_jobs.specs.Taken.{name_of, finished_name, worth, kept_in, FitEach, Took}
use Rattle.live_jobs.proofs.Rows.{get_snoc}
use Rattle.live_jobs.proofs.Passes.{get_set, marked_snoc, jobs_snoc, jobs_marked}

mark_more : (a : List Parcel) (p : Parcel) → has_mark a ≡ true → has_mark (a ++ p ∷ []) ≡ true
mark_more [] p h = absurd (cc)
mark_more (parcels.Job x ∷ a) p h = mark_more a p h
mark_more (parcels.Mark e ∷ a) p h = refl

-- a closing mark that was taken stays taken
mark_stays : (e : ℕ) (a : List Parcel) (p : Parcel) → has_mark (of_end e a) ≡ true
    → Dec (end_of p ≡ e) → has_mark (of_end e (a ++ p ∷ [])) ≡ true
mark_stays e a p h (yes d) = ap has_mark (of_end_snoc e a p d) ∙ mark_more (of_end e a) p h
mark_stays e a p h (no d) = ap has_mark (of_end_snoc_else e a p d) ∙ h

map_snoc : {X Y : Type 0} (f : X → Y) (xs : List X) (x : X)
    → map f (xs ++ x ∷ []) ≡ map f xs ++ f x ∷ []
map_snoc f [] x = refl
map_snoc f (y ∷ xs) x = ap (λ l. f y ∷ l) (map_snoc f xs x)

inside : {X : Type 0} (xs : List X) (k : ℕ) (x : X) → slice_get xs k ≡ Some x → k < length xs
inside [] k x e = absurd (cc)
inside (y ∷ xs) zero x e = omega arith
inside (y ∷ xs) (suc k) x e = let h = inside xs k x e in omega arith

module _ {O : Type 0} (fits : O → Handed → Type 0) where
  -- one outcome more, and one job more, which it fits
  fit_snoc : (ds : List (FinishedJob O)) (js : List Handed) (d : FinishedJob O) (j : Handed)
      → length ds ≡ length js
      → FitEach fits ds js → fits d.outcome j → FitEach fits (ds ++ d ∷ []) (js ++ j ∷ [])
  fit_snoc ds js d j long all this k e i at there = ⊎_elim
      (λ (t : slice_get ds k ≡ Some e). ⊎_elim
      (λ (u : slice_get js k ≡ Some i). all k e i t u)
      (λ (u : (k ≡ length js) × (j ≡ i)). let h = inside ds k e t in let last = u.0 in
      absurd (omega arith))
      (get_snoc js j k i there))
      (λ (t : (k ≡ length ds) × (d ≡ e)). ⊎_elim
      (λ (u : slice_get js k ≡ Some i). let h = inside js k i u in let last = t.0 in
      absurd (omega arith))
      (λ (u : (k ≡ length js) × (j ≡ i)).
      subst (λ (x : FinishedJob O × Handed). ∥ fits x.0.outcome x.1 ∥₁)
      (λ n. (t.1 n, u.1 n)) ∣ this ∣₁)
      (get_snoc js j k i there))
      (get_snoc ds d k e at)

  pub took_job : (p q : QueuePass) (finished : List (FinishedJob O)) (closed : List Bool)
      (j : Handed) (d : FinishedJob O)
      → Took fits p finished closed → OfWriter (view q)
      → (view q).taken ≡ (view p).taken ++ parcels.Job j ∷ []
      → finished_name d ≡ name_of j → fits d.outcome j → Took fits q (finished ++ d ∷ []) closed
  took_job p q finished closed j d took own is named well = record {
    takes = own;
    told = map_snoc finished_name finished d ∙ ap (λ l. l ++ finished_name d ∷ []) took.told
        ∙ ap (λ n. map name_of (jobs_of (view p).taken) ++ n ∷ []) named
        ∙ sym (ap (map name_of) (ap jobs_of is ∙ jobs_snoc (view p).taken j)
        ∙ map_snoc name_of (jobs_of (view p).taken) j);
    fit = subst (FitEach fits (finished ++ d ∷ []))
        (sym (ap jobs_of is ∙ jobs_snoc (view p).taken j))
        (fit_snoc finished (jobs_of (view p).taken) d j (sym (length-map finished finished_name)
        ∙ ap length took.told ∙ length-map (jobs_of (view p).taken) name_of) took.fit well);
    marks = λ e at. ap (λ l. has_mark (of_end e l)) is
        ∙ mark_stays e (view p).taken (parcels.Job j) (took.marks e at) (ℕ_discrete j.end e);
  }

  pub took_mark : (p q : QueuePass) (finished : List (FinishedJob O)) (closed : List Bool) (end : ℕ)
      → Took fits p finished closed → OfWriter (view q)
      → (view q).taken ≡ (view p).taken ++ parcels.Mark end ∷ []
      → Took fits q finished (slice_set closed end true)
  took_mark p q finished closed end took own is = record {
    takes = own;
    told = took.told ∙ sym (ap (map name_of) (ap jobs_of is ∙ jobs_marked (view p).taken end));
    fit = subst (FitEach fits finished)
        (sym (ap jobs_of is ∙ jobs_marked (view p).taken end)) took.fit;
    marks = λ e at. ap (λ l. has_mark (of_end e l)) is ∙ ⊎_elim
        (λ (t : (e ≡ end) × (true ≡ true)).
        ap has_mark (of_end_snoc e (view p).taken (parcels.Mark end) (sym t.0))
        ∙ marked_snoc (of_end e (view p).taken) end)
        (λ (t : (e ≢ end) × (slice_get closed e ≡ Some true)).
        mark_stays e (view p).taken (parcels.Mark end) (took.marks e t.1) (ℕ_discrete end e))
        (get_set closed end true e true at);
  }

  -- a pass that knows the same
  pub took_same : (p q : QueuePass) (finished : List (FinishedJob O)) (closed : List Bool)
      → Took fits p finished closed → view q ≡ view p → Took fits q finished closed
  took_same p q finished closed took is = record {
    takes = subst OfWriter (sym is) took.takes;
    told = took.told ∙ ap (λ (v : Known). map name_of (jobs_of v.taken)) (sym is);
    fit = subst (FitEach fits finished) (ap (λ (v : Known). jobs_of v.taken) (sym is)) took.fit;
    marks = λ e at. ap (λ (v : Known). has_mark (of_end e v.taken)) is ∙ took.marks e at;
  }

  -- the same of a parcel that is known by its kind, where the list of what was told has grown by
  -- one
  pub takes_job : (p q : QueuePass) (finished now : List (FinishedJob O)) (closed : List Bool)
      (x : Parcel) (j : Handed) (d : FinishedJob O)
      → Took fits p finished closed → OfWriter (view q) → HasTaken (view p) x (view q)
      → x ≡ parcels.Job j
      → finished_name d ≡ name_of j → fits d.outcome j → now ≡ finished ++ d ∷ []
      → Took fits q now closed
  takes_job p q finished now closed x j d took own is kind named well grown =
      subst (λ (l : List (FinishedJob O)). Took fits q l closed) (sym grown)
      (took_job p q finished closed j d took own (ap (λ (v : Known). v.taken) is
      ∙ ap (λ (y : Parcel). (view p).taken ++ y ∷ []) kind) named well)

  pub takes_mark : (p q : QueuePass) (finished now : List (FinishedJob O))
      (closed flags : List Bool) (x : Parcel) (end : ℕ)
      → Took fits p finished closed → OfWriter (view q) → HasTaken (view p) x (view q)
      → x ≡ parcels.Mark end
      → now ≡ finished → flags ≡ slice_set closed end true → Took fits q now flags
  takes_mark p q finished now closed flags x end took own is kind same set =
      subst (λ (y : List (FinishedJob O) × List Bool). Took fits q y.0 y.1)
      (λ i. (sym same i, sym set i))
      (took_mark p q finished closed end took own
      (ap (λ (v : Known). v.taken) is ∙ ap (λ (y : Parcel). (view p).taken ++ y ∷ []) kind))

pub worth_one : (b : Bool) → worth b ≤ 1
worth_one true = omega arith
worth_one false = omega arith

module _ {O : Type 0} (kept : O → Bool) where
  pub kept_snoc : (ds : List (FinishedJob O)) (d : FinishedJob O)
      → kept_in kept (ds ++ d ∷ []) ≡ kept_in kept ds + worth (kept d.outcome)
  kept_snoc [] d = omega arith
  kept_snoc (x ∷ ds) d = let h = kept_snoc ds d in omega arith

  pub kept_within : (ds : List (FinishedJob O)) → kept_in kept ds ≤ length ds
  kept_within [] = omega arith
  kept_within (d ∷ ds) = let h = kept_within ds in let w = worth_one (kept d.outcome) in omega arith

  pub kept_more : (ds now : List (FinishedJob O)) (d : FinishedJob O) (count one : ℕ)
      → now ≡ ds ++ d ∷ [] → count ≡ kept_in kept ds → one ≡ worth (kept d.outcome)
      → count + one ≡ kept_in kept now
  kept_more ds now d count one grown was is =
      summed ∙ sym (ap (kept_in kept) grown ∙ kept_snoc ds d)
    where
      summed : count + one ≡ kept_in kept ds + worth (kept d.outcome)
      summed = omega arith

-- where no mark is noted, no end is noted as closed
pub no_flags : (n k : ℕ) → slice_get (replicate n false) k ≡ Some true → ⊥
no_flags zero k e = absurd (cc)
no_flags (suc n) zero e = true≢false (sym (same_Some false true e))
no_flags (suc n) (suc k) e = no_flags n k e

-- a writer that took nothing
pub none_taken : {O : Type 0} (fits : O → Handed → Type 0) (pass : QueuePass)
    (finished : List (FinishedJob O)) (closed : List Bool) → view {V = Known} pass ≡ writer_knows []
    → finished ≡ [] → ((e : ℕ) → slice_get closed e ≡ Some true → ⊥)
    → Took fits pass finished closed
none_taken fits pass finished closed is none open_ends = record {
  takes = is ∙ ap writer_knows (sym (ap (λ (k : Known). k.taken) is));
  told = ap (map finished_name) none
      ∙ ap (λ (k : Known). map name_of (jobs_of k.taken)) (sym is);
  fit = λ k d j at there. let nothing = ap (λ (l : List (FinishedJob _)). slice_get l k) (sym none)
      ∙ at in absurd (cc);
  marks = λ e at. absurd (open_ends e at);
}
