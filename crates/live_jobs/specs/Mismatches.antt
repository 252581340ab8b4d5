-- Kept answers whose writers have no such receipt (docs/PROTOCOL.md, Threads).
use Rattle.std.specs.Prelude.{◌≡◌, ℕ, ◌+◌, ◌==◌, ◌&&◌, Bool, true, false, not, List, [], ◌∷◌}
use Rattle.std.specs.Prelude.{count_by, slice_get, Some}
use Rattle.std.specs.List.{list_any}
use Rattle.live_jobs.specs.Gathered.{all_told}
use Rattle.live_jobs.specs.declared.store_result.StoreResult.{StoreResult}
use Rattle.live_jobs.specs.declared.store_result.StoreResult.TheVariants as store_results
use Rattle.live_jobs.specs.declared.store_result.KeptJob.{KeptJob}
use Rattle.live_jobs.specs.declared.outcome.FinishedJob.{FinishedJob}
use Rattle.live_jobs.specs.declared.desk.both.Posted.{Posted}
use Rattle.live_store.specs.declared.record.StorePremises.{Ghosts}
use Rattle.live_store.specs.declared.stored.Receipt.{Receipt}

-- the article is kept, and this is the register number of its receipt
abbrev pub is_kept_as : {J : Type 0} {g : Ghosts J} → ℕ → StoreResult J g → Bool
is_kept_as number (store_results.Kept receipt posted) = receipt.shown.index == number
is_kept_as number (store_results.Failed fault forgotten) = false
is_kept_as number (store_results.Conflict forgotten) = false

-- the job is in conflict
abbrev pub is_conflict : {J : Type 0} {g : Ghosts J} → StoreResult J g → Bool
is_conflict (store_results.Kept receipt posted) = false
is_conflict (store_results.Failed fault forgotten) = false
is_conflict (store_results.Conflict forgotten) = true

-- what a writer tells is that the job of this end and number is kept under this register number
abbrev pub is_receipt_of : {J : Type 0} {g : Ghosts J} → (end number register : ℕ)
    → FinishedJob (StoreResult J g) → Bool
is_receipt_of end number register d =
    (d.end == end) && ((d.number == number) && is_kept_as register d.outcome)

-- the register number of a kept answer of this end is that of the writer's receipt for the job
abbrev pub has_receipt : {J : Type 0} {g : Ghosts J}
    → List (FinishedJob (StoreResult J g)) → (end : ℕ)
    → KeptJob J g → Bool
has_receipt finished end answer =
    list_any (is_receipt_of end answer.number answer.register) finished

-- how many of the kept answers of this end have another register number
abbrev pub mismatched_of : {J : Type 0} {g : Ghosts J}
    → List (FinishedJob (StoreResult J g)) → (end : ℕ)
    → List (KeptJob J g) → ℕ
mismatched_of finished end answers =
    count_by (λ answer. not (has_receipt finished end answer)) answers

-- the same of all ends from this one on, of each the list of its kept answers
abbrev pub mismatched_from : {J : Type 0} {g : Ghosts J}
    → List (FinishedJob (StoreResult J g)) → (end : ℕ)
    → List (List (KeptJob J g)) → ℕ
mismatched_from finished end [] = 0
mismatched_from finished end (answers ∷ rest) =
    mismatched_of finished end answers + mismatched_from finished (end + 1) rest

-- how many of the jobs are in conflict
abbrev pub conflicts_in : {J : Type 0} {g : Ghosts J} → List (FinishedJob (StoreResult J g)) → ℕ
conflicts_in finished = count_by (λ d. is_conflict d.outcome) finished

-- the number of the kept answers of all ends whose register number isn't that of the writer's
-- receipt for the same job, plus the number of the jobs in conflict of all writers
abbrev pub mismatched_receipts_in : {J : Type 0} {g : Ghosts J} → List (List (KeptJob J g))
    → List (List (FinishedJob (StoreResult J g))) → ℕ
mismatched_receipts_in answers finished_lists =
    mismatched_from (all_told finished_lists) 0 answers + conflicts_in (all_told finished_lists)

-- a writer told of the job of this kept answer, and its receipt has the answer's register number
pub record BearsOut {J : Type 0} {g : Ghosts J} (end : ℕ) (answer : KeptJob J g)
    (d : FinishedJob (StoreResult J g))
    : Type 0 where
  pub receipt : Receipt J g
  pub posted : Posted
  pub kept : d.outcome ≡ store_results.Kept receipt posted
  pub same_end : d.end ≡ end
  pub same_number : d.number ≡ answer.number
  pub same_record : receipt.shown.index ≡ answer.register

-- one of the jobs that writers told of bears it out
abbrev pub IsBorneOut : {J : Type 0} {g : Ghosts J}
    → List (FinishedJob (StoreResult J g)) → (end : ℕ)
    → KeptJob J g → Type 0
IsBorneOut {J} {g} finished end answer =
    (j : ℕ) × (d : FinishedJob (StoreResult J g)) × (slice_get finished j ≡ Some d)
    × BearsOut end answer d

-- so is each kept answer of each end
abbrev pub AllBorneOut : {J : Type 0} {g : Ghosts J} → List (List (KeptJob J g))
    → List (FinishedJob (StoreResult J g)) → Type 0
AllBorneOut {J} {g} answers finished =
    (end k : ℕ) (list : List (KeptJob J g)) (answer : KeptJob J g)
    → slice_get answers end ≡ Some list → slice_get list k ≡ Some answer
    → IsBorneOut finished end answer

-- no job is in conflict
abbrev pub NoneConflicts : {J : Type 0} {g : Ghosts J}
    → List (FinishedJob (StoreResult J g)) → Type 0
NoneConflicts {J} {g} finished =
    (j : ℕ) (d : FinishedJob (StoreResult J g)) → slice_get finished j ≡ Some d
    → is_conflict d.outcome ≡ false
