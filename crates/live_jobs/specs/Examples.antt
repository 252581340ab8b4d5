-- Worked counts: what two ends were answered, and what the writers of two groups told.
use Rattle.std.specs.Prelude.{ℕ, List, [], ◌∷◌, codes, refl}
use Rattle.cyc_buffer.specs.declared.answers.Fault.{Fault}
use Rattle.live_jobs.specs.declared.store_result.StoreResult.{StoreResult}
use Rattle.live_jobs.specs.declared.store_result.StoreResult.TheVariants as store_results
use Rattle.live_jobs.specs.declared.store_result.KeptJob.{KeptJob}
use Rattle.live_jobs.specs.declared.outcome.FinishedJob.{FinishedJob}
use Rattle.live_jobs.specs.declared.desk.both.Posted.{Posted}
use Rattle.live_jobs.specs.declared.forgetting.Forgotten.{Forgotten}
use Rattle.live_store.specs.declared.record.StorePremises.{Ghosts}
use Rattle.live_store.specs.declared.stored.Receipt.{Receipt}

-- a job that was answered kept
abbrev pub answer : {J : Type 0} {g : Ghosts J} → (number : ℕ) → Receipt J g → KeptJob J g
answer number receipt =
    record {
      number = number;
      register = receipt.shown.index;
      of = record {};
      shown = ∣ (receipt.shown, receipt.here, refl) ∣₁;
    }

-- what a writer told of a job
abbrev pub tells : {J : Type 0} {g : Ghosts J} → (end number : ℕ) → (id : List ℕ) → StoreResult J g
    → FinishedJob (StoreResult J g)
tells end number id store_result =
    record { end = end; number = number; id = id; outcome = store_result }

-- end 0 was answered twice, end 1 once
abbrev pub answers : {J : Type 0} {g : Ghosts J} → (one two : Receipt J g)
    → List (List (KeptJob J g))
answers one two = (answer 0 one ∷ answer 1 two ∷ []) ∷ (answer 0 one ∷ []) ∷ []

-- the writers told of these jobs as of kept ones, each with its receipt
abbrev pub all_stand : {J : Type 0} {g : Ghosts J} → Posted → (one two : Receipt J g)
    → List (List (FinishedJob (StoreResult J g)))
all_stand posted one two =
    (tells 0 0 (codes "<a@x>") (store_results.Kept one posted)
    ∷ tells 1 0 (codes "<b@x>") (store_results.Kept one posted) ∷ [])
    ∷ (tells 0 1 (codes "<c@x>") (store_results.Kept two posted) ∷ []) ∷ []

-- the receipt of one job is another, one job failed, and one is in conflict
abbrev pub three_mismatched_receipts : {J : Type 0} {g : Ghosts J} → Posted
    → (one : Receipt J g) → Fault → Forgotten
    → List (List (FinishedJob (StoreResult J g)))
three_mismatched_receipts posted one fault forgotten =
    (tells 0 0 (codes "<a@x>") (store_results.Kept one posted)
    ∷ tells 0 1 (codes "<c@x>") (store_results.Kept one posted) ∷ [])
    ∷ (tells 1 0 (codes "<b@x>") (store_results.Failed fault forgotten)
    ∷ tells 1 1 (codes "<d@x>") (store_results.Conflict forgotten) ∷ [])
    ∷ []
