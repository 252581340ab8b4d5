-- The head of a list of sizes, the place of the next one, and numbers of runs.
use Rattle.std.proofs.Common.{◌≡◌, ℕ, ◌+◌, ◌*◌, ◌≤◌, nat_le, true, false, List, [], ◌∷◌, ◌++◌}
use Rattle.std.proofs.Common.{arith, mul-le-mul_right, ◌⊎◌, inl, inr}
use Rattle.std.proofs.lemmas.Bool.{cond-true, cond-false, cases_Bool, leb-true}
use Rattle.std.proofs.lemmas.List.Sums.{fold_push}
use Rattle.news_terms.specs.Places.{Head, place_in_runs, after_size, head_after, first_head}

-- the next size goes behind those of its run where it fits, else to the front of the next one
pub place_cases : (room : ℕ → ℕ) (head : Head) (size : ℕ)
    → ((place_in_runs room head size ≡ head) × (head.used + size ≤ room head.run))
    ⊎ (place_in_runs room head size ≡ record { run = head.run + 1; used = 0 })
place_cases room head size = by_test (cases_Bool (nat_le (head.used + size) (room head.run)))
  where
    by_test : (nat_le (head.used + size) (room head.run) ≡ true)
        ⊎ (nat_le (head.used + size) (room head.run) ≡ false)
        → ((place_in_runs room head size ≡ head) × (head.used + size ≤ room head.run))
        ⊎ (place_in_runs room head size ≡ record { run = head.run + 1; used = 0 })
    by_test (inl fits) =
        inl (
          cond-true (nat_le (head.used + size) (room head.run)) _ _ fits,
          leb-true (head.used + size) (room head.run) fits,
        )
    by_test (inr full) = inr (cond-false (nat_le (head.used + size) (room head.run)) _ _ full)

-- the head after one more size
pub head_push : (room : ℕ → ℕ) (sizes : List ℕ) (size : ℕ)
    → head_after room (sizes ++ size ∷ []) ≡ after_size room (head_after room sizes) size
head_push room sizes size = fold_push (after_size room) first_head sizes size

-- a cycle later is a buffer further on
pub next_cycle : (blocks cycle used : ℕ) → used ≤ blocks
    → cycle * blocks + used ≤ (cycle + 1) * blocks
next_cycle blocks cycle used within = omega arith

-- an earlier cycle begins no later
pub later_cycle : (blocks early late : ℕ) → early ≤ late → early * blocks ≤ late * blocks
later_cycle blocks early late h = mul-le-mul_right blocks h
