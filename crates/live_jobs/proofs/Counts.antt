-- The kept jobs of all writers, one writer more.
use Rattle.std.proofs.Common.{◌≡◌, ℕ, zero, suc, ◌+◌, ◌≤◌, ◌≢◌, ⊎_elim, Bool, false, List, []}
use Rattle.std.proofs.Common.{◌∷◌, take, Some, sym, ap, ◌∙◌, arith, add-one}
use Rattle.std.proofs.lemmas.Option.{same_Some}
use Rattle.std.specs.Prelude.{slice_get, slice_set}
use Rattle.live_jobs.specs.declared.outcome.FinishedJob.{FinishedJob}
use Rattle.live_jobs.specs.Taken.{kept_in}
use Rattle.live_jobs.specs.Gathered.{kept_by_all}
use Rattle.live_jobs.proofs.Passes.{get_set}

module _ {O : Type 0} (kept : O → Bool) where
  kept_suc : (dss : List (List (FinishedJob O))) (g : ℕ) (ds : List (FinishedJob O))
      → slice_get dss g ≡ Some ds
      → kept_by_all kept (take (suc g) dss) ≡ kept_by_all kept (take g dss) + kept_in kept ds
  kept_suc [] g ds at = absurd (cc)
  kept_suc (x ∷ dss) zero ds at = let same = ap (kept_in kept) (same_Some x ds at) in omega arith
  kept_suc (x ∷ dss) (suc g) ds at = let h = kept_suc dss g ds at in omega arith

  pub kept_next : (dss : List (List (FinishedJob O))) (g : ℕ) (ds : List (FinishedJob O))
      → slice_get dss g ≡ Some ds
      → kept_by_all kept (take (g + 1) dss) ≡ kept_by_all kept (take g dss) + kept_in kept ds
  kept_next dss g ds at = rw add-one (kept_suc dss g ds at)

module _ {X : Type 0} (lent : X → Bool) where
  -- the seats from the next on haven't lent their shares
  pub here_next : (xs : List X) (g : ℕ) (new : X)
      → ((k : ℕ) (w : X) → g ≤ k → slice_get xs k ≡ Some w → lent w ≡ false)
      → (k : ℕ) (w : X) → g + 1 ≤ k → slice_get (slice_set xs g new) k ≡ Some w → lent w ≡ false
  here_next xs g new here k w past at = ⊎_elim
      (λ (t : (k ≡ g) × (new ≡ w)). let same = t.0 in absurd (omega arith))
      (λ (t : (k ≢ g) × (slice_get xs k ≡ Some w)). here k w (omega arith) t.1)
      (get_set xs g new k w at)

  pub here_set : (xs : List X) (g : ℕ) (new : X) → lent new ≡ false
      → ((k : ℕ) (w : X) → slice_get xs k ≡ Some w → lent w ≡ false)
      → (k : ℕ) (w : X) → slice_get (slice_set xs g new) k ≡ Some w → lent w ≡ false
  here_set xs g new this here k w at = ⊎_elim
      (λ (t : (k ≡ g) × (new ≡ w)). ap lent (sym t.1) ∙ this)
      (λ (t : (k ≢ g) × (slice_get xs k ≡ Some w)). here k w t.1)
      (get_set xs g new k w at)

-- the first writers kept no more than all
pub kept_most : {O : Type 0} (kept : O → Bool) (dss : List (List (FinishedJob O))) (g : ℕ)
    → kept_by_all kept (take g dss) ≤ kept_by_all kept dss
kept_most kept [] zero = omega arith
kept_most kept [] (suc g) = omega arith
kept_most kept (x ∷ dss) zero = omega arith
kept_most kept (x ∷ dss) (suc g) = let h = kept_most kept dss g in omega arith

-- what is the same is at most that
pub at_most : (n m : ℕ) → n ≡ m → n ≤ m
at_most n m same = omega (arith, same)
