-- What it says that there are no mismatched receipts.
use Rattle.std.proofs.Common.{◌≡◌, ◌∙◌, ◌+◌, ◌&&◌, ◌==◌, ℕ, Bool, true, false, cond, not, List, []}
use Rattle.std.proofs.Common.{◌∷◌, count_by, sym, ap, refl, subst, add-zero, zero-add, ⊎_elim}
use Rattle.std.proofs.Common.{arith}
use Rattle.std.proofs.lemmas.Bool.{and_parts, eqb-true, not-false, or_cases}
use Rattle.std.proofs.lemmas.List.Sums.{sum_by-cons}
use Prim.Native.Nat.{zero, suc}
use Rattle.std.specs.List.{list_any}
use Rattle.std.specs.Prelude.{slice_get, Some}
use Rattle.live_jobs.specs.Mismatches.{is_kept_as, is_conflict, is_receipt_of, has_receipt}
use Rattle.live_jobs.specs.Mismatches.{mismatched_of}
use Rattle.live_jobs.specs.Mismatches.{mismatched_from, conflicts_in, BearsOut, IsBorneOut}
use Rattle.live_jobs.specs.Mismatches.{AllBorneOut}
use Rattle.live_jobs.specs.Mismatches.{NoneConflicts}
use Rattle.live_store.specs.declared.record.StorePremises.{Ghosts}
use Rattle.live_jobs.specs.declared.outcome.FinishedJob.{FinishedJob}
use Rattle.live_jobs.specs.declared.store_result.StoreResult.{StoreResult}
use Rattle.live_jobs.specs.declared.store_result.StoreResult.TheVariants as store_results
use Rattle.live_jobs.specs.declared.store_result.KeptJob.{KeptJob}

-- where none is counted, none passes
none_counted : {X : Type 0} (p : X → Bool) (xs : List X) (k : ℕ) (x : X) → count_by p xs ≡ 0
    → slice_get xs k ≡ Some x → p x ≡ false
none_counted p [] k x none at = absurd (cc)
none_counted {X} p (y ∷ ys) zero x none at =
    first (p y) refl
  where
    same : y ≡ x
    same = cc

    first : (b : Bool) → p y ≡ b → p x ≡ false
    first true is =
        absurd (omega (
          arith,
          none,
          sum_by-cons (λ z. cond (p z) 1 0) y ys,
          ap {B = ℕ} (λ (c : Bool). cond c 1 0) is,
        ))
    first false is = ap p (sym same) ∙ is
none_counted p (y ∷ ys) (suc k) x none at =
    none_counted p ys k x (omega (arith, none, sum_by-cons (λ z. cond (p z) 1 0) y ys)) at

-- the receipt of a kept job
receipt_of : {J : Type 0} {g : Ghosts J} (end : ℕ) (answer : KeptJob J g)
    (d : FinishedJob (StoreResult J g))
    → is_receipt_of end answer.number answer.register d ≡ true → BearsOut end answer d
receipt_of {J} {g} end answer d is =
    let kept : Bool = is_kept_as answer.register d.outcome in
    let parts = and_parts (d.end == end) ((d.number == answer.number) && kept) is in
    let rest = and_parts (d.number == answer.number) kept parts.1 in
    of_store_result d.outcome refl parts.0 rest.0 rest.1
  where
    of_store_result : (f : StoreResult J g) → d.outcome ≡ f → (d.end == end) ≡ true
        → (d.number == answer.number) ≡ true → is_kept_as answer.register f ≡ true
        → BearsOut end answer d
    of_store_result (store_results.Kept receipt posted) kept one two three = record {
      receipt = receipt;
      posted = posted;
      kept = kept;
      same_end = eqb-true d.end end one;
      same_number = eqb-true d.number answer.number two;
      same_record = eqb-true receipt.shown.index answer.register three;
    }
    of_store_result (store_results.Failed fault forgotten) kept one two three = absurd (cc)
    of_store_result (store_results.Conflict forgotten) kept one two three = absurd (cc)

-- a job that passes stands at a place
placed : {X : Type 0} (p : X → Bool) (xs : List X) → list_any p xs ≡ true
    → (j : ℕ) × (x : X) × (slice_get xs j ≡ Some x) × (p x ≡ true)
placed p [] any = absurd (cc)
placed {X} p (x ∷ xs) any =
    ⊎_elim (λ here. (0, x, refl, here))
    (λ later. let there = placed p xs later in (suc there.0, there.1, there.2, there.3))
    (or_cases (p x) (list_any p xs) any)

-- each answer of one end
one_end : {J : Type 0} {g : Ghosts J} (finished : List (FinishedJob (StoreResult J g))) (end k : ℕ)
    (list : List (KeptJob J g)) (answer : KeptJob J g) → mismatched_of finished end list ≡ 0
    → slice_get list k ≡ Some answer
    → IsBorneOut finished end answer
one_end {J} {g} finished end k list answer none at =
    let missing : KeptJob J g → Bool = λ a. not (has_receipt finished end a) in
    let kept = none_counted missing list k answer none at in
    let there = placed (is_receipt_of end answer.number answer.register) finished
    (not-false (has_receipt finished end answer) kept) in
    (there.0, there.1, there.2, receipt_of end answer there.1 there.3)

-- each answer of the ends from one on
from_end : {J : Type 0} {g : Ghosts J} (finished : List (FinishedJob (StoreResult J g)))
    (first n k : ℕ)
    (answers : List (List (KeptJob J g))) (list : List (KeptJob J g)) (answer : KeptJob J g)
    → mismatched_from finished first answers ≡ 0 → slice_get answers n ≡ Some list
    → slice_get list k ≡ Some answer
    → IsBorneOut finished (first + n) answer
from_end finished first n k [] list answer none here at = absurd (cc)
from_end {J} {g} finished first zero k (head ∷ rest) list answer none here at =
    subst (λ (e : ℕ). IsBorneOut finished e answer) (sym (add-zero first))
    (one_end finished first k list answer
    (ap (mismatched_of finished first) same ∙ omega (arith, none)) at)
  where
    same : list ≡ head
    same = cc
from_end {J} {g} finished first (suc n) k (head ∷ rest) list answer none here at =
    let next : first + 1 + n ≡ first + suc n = omega arith in
    subst (λ (e : ℕ). IsBorneOut finished e answer) next
    (from_end finished (first + 1) n k rest list answer (omega (arith, none)) here at)

-- where none is astray, each answer is borne out
pub all_borne_out : {J : Type 0} {g : Ghosts J} (answers : List (List (KeptJob J g)))
    (finished : List (FinishedJob (StoreResult J g))) → mismatched_from finished 0 answers ≡ 0
    → AllBorneOut answers finished
all_borne_out {J} {g} answers finished none =
    λ end k list answer here at.
    subst (λ (e : ℕ). IsBorneOut finished e answer) (zero-add end)
    (from_end finished 0 end k answers list answer none here at)

-- where none is counted, none is in conflict
pub none_conflicts : {J : Type 0} {g : Ghosts J} (finished : List (FinishedJob (StoreResult J g)))
    → conflicts_in finished ≡ 0
    → NoneConflicts finished
none_conflicts {J} {g} finished none =
    λ j d at. none_counted (λ (one : FinishedJob (StoreResult J g)). is_conflict one.outcome)
    finished j d none at
