-- What is in the sets with which is counted.
use Rattle.std.specs.Prelude.{ℕ, ◌+◌, Bool, not, List, [], ◌∷◌, count_by}
use Rattle.std.specs.BTreeSet.{BTreeSet, contains_by}
use Rattle.std.specs.Ordering.{nat_cmp, ordering_then}
use Rattle.live_jobs.specs.declared.store_result.KeptJob.{KeptJob}
use Rattle.live_store.specs.declared.record.StorePremises.{Ghosts}

-- the kept job is one of the set: its end, its number and its register number
abbrev pub has_job : BTreeSet (ℕ × ℕ × ℕ) → (end number register : ℕ) → Bool
has_job jobs end number register =
    contains_by (λ one. ordering_then (ordering_then (nat_cmp end one.0) (nat_cmp number one.1))
    (nat_cmp register one.2))
    jobs

-- how many of the kept answers of this end are for no job of the set
abbrev pub unlisted_of : {J : Type 0} {g : Ghosts J} → BTreeSet (ℕ × ℕ × ℕ) → (end : ℕ)
    → List (KeptJob J g) → ℕ
unlisted_of jobs end answers =
    count_by (λ a. not (has_job jobs end a.number a.register)) answers

-- the same of all ends from this one on
abbrev pub unlisted_from : {J : Type 0} {g : Ghosts J} → BTreeSet (ℕ × ℕ × ℕ) → (end : ℕ)
    → List (List (KeptJob J g)) → ℕ
unlisted_from jobs end [] = 0
unlisted_from jobs end (answers ∷ rest) =
    unlisted_of jobs end answers + unlisted_from jobs (end + 1) rest
