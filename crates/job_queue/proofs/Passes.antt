-- What all passes of a queue know, each by its number: what is so of all of them after a step.
use Rattle.std.proofs.Common.{◌≡◌, ◌≢◌, ◌⊎◌, inl, inr, ℕ, zero, suc, List, [], ◌∷◌, ◌++◌, length}
use Rattle.std.proofs.Common.{set, refl, sym, ap, subst, ⊎_elim, arith}
use mathlib.Core.Option.{some, some-ne-none, some-injective}
use lib.ListN.{get_elem?}
use Rattle.crossbeam_queue.proofs.Lists.{at_set}
use Rattle.job_queue.specs.declared.known.Known.{Known}

-- F is so of each pass, by its number and what it knows
abbrev pub All : (ℕ → Known → Type 0) → List Known → Type 0
All F passes = (pass : ℕ) (k : Known) → get_elem? passes pass ≡ some k → F pass k

-- after a change of one pass
pub all_set : (F : ℕ → Known → Type 0) (passes : List Known) (pass : ℕ) (after : Known)
    → F pass after
    → ((other : ℕ) (k : Known) → other ≢ pass → get_elem? passes other ≡ some k → F other k)
    → All F (set passes pass after)
all_set F passes pass after mine others j k e =
    ⊎_elim
    (λ (is : (j ≡ pass) × (after ≡ k)).
    subst (λ (at : ℕ × Known). F at.0 at.1) (λ i. (sym is.0 i, is.1 i)) mine)
    (λ (is : (j ≢ pass) × (get_elem? passes j ≡ some k)). others j k is.0 is.1)
    (at_set passes pass j after k e)

-- a pass among those before the last, or the last
at_new : (passes : List Known) (last k : Known) (j : ℕ) → get_elem? (passes ++ last ∷ []) j ≡ some k
    → ((j ≢ length passes) × (get_elem? passes j ≡ some k)) ⊎ ((j ≡ length passes) × (last ≡ k))
at_new [] last k zero e = inr (refl, some-injective last k e)
at_new [] last k (suc j) e = absurd (some-ne-none k (sym e))
at_new (p ∷ passes) last k zero e = inl ((λ h. omega arith), e)
at_new (p ∷ passes) last k (suc j) e =
    ⊎_elim
    (λ (is : (j ≢ length passes) × (get_elem? passes j ≡ some k)).
    inl ((λ h. let differs = is.0 in differs (omega arith)), is.1))
    (λ (is : (j ≡ length passes) × (last ≡ k)). inr (ap suc is.0, is.1))
    (at_new passes last k j e)

-- after a new pass came, with the last number
pub all_new : (F : ℕ → Known → Type 0) (passes : List Known) (new : Known)
    → ((old : ℕ) (k : Known) → old ≢ length passes → get_elem? passes old ≡ some k → F old k)
    → F (length passes) new → All F (passes ++ new ∷ [])
all_new F passes new others mine j k e =
    ⊎_elim
    (λ (is : (j ≢ length passes) × (get_elem? passes j ≡ some k)). others j k is.0 is.1)
    (λ (is : (j ≡ length passes) × (new ≡ k)).
    subst (λ (at : ℕ × Known). F at.0 at.1) (λ i. (sym is.0 i, is.1 i)) mine)
    (at_new passes new k j e)
