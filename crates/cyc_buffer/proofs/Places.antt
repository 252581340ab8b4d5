-- Where begins go, and what the front passes by one.
use Rattle.std.proofs.Common.{◌≡◌, ◌∙◌, ℕ, ◌+◌, ◌<◌, ◌≤◌, ◌⊎◌, inl, inr, nat_lt, nat_le, ◌==◌, ◌&&◌}
use Rattle.std.proofs.Common.{◌||◌, not, Bool, true, false, refl, arith, cond}
use Rattle.std.proofs.lemmas.Bool.{cases_lt, cond_both, le-ltb, lt-leb, leb-true, leb-false}
use Rattle.std.proofs.lemmas.Bool.{ltb-false, eqb-true, eq-eqb, and_cases, and_left, and_right}
use Rattle.std.proofs.lemmas.Bool.{or_parts, or_from, not-false, not_from_true}
use Rattle.news_terms.specs.Places.{Head, place_in_runs}
use Rattle.news_terms.specs.Picks.{place_after}
use Rattle.cyc_buffer.specs.Marks.{is_among}
use Rattle.cyc_buffer.specs.BufferState.{IsUnpassedBy}

-- a begin goes right behind the head, or to the front of the next run
abbrev pub IsPlaced : (blocks : ℕ) → Head → (size : ℕ) → Head → Type 0
IsPlaced blocks head size at =
    ((at.run ≡ head.run) × (at.used ≡ head.used) × (head.used + size ≤ blocks))
    ⊎ ((at.run ≡ head.run + 1) × (at.used ≡ 0))

pub placed : (blocks : ℕ) (head : Head) (fresh : Bool) (size : ℕ)
    → IsPlaced blocks head size (place_after blocks head fresh size)
placed blocks head fresh size =
    cond_both (fresh && nat_lt 0 head.used) (record { run = head.run + 1; used = 0 })
    (place_in_runs (λ (run : ℕ). blocks) head size) (IsPlaced blocks head size)
    (λ e. inr (refl, refl))
    (λ e. cond_both (nat_le (head.used + size) blocks) head (record {
      run = head.run + 1;
      used = 0;
    })
    (IsPlaced blocks head size) (λ k. inl (refl, refl, leb-true (head.used + size) blocks k))
    (λ k. inr (refl, refl)))

-- an article that begins there ends in the buffer
pub placed_within : (blocks : ℕ) (head : Head) (fresh : Bool) (size : ℕ) → size ≤ blocks
    → (place_after blocks head fresh size).used + size ≤ blocks
placed_within blocks head fresh size h = elim (placed blocks head fresh size) [
  | inl p ↦ omega (arith, p.1, p.2)
  | inr p ↦ omega (arith, p.1, h)
]

-- what an equation with a choice says
pub chosen : {X : Type 0} → (b : Bool) (x y z : X) → cond b x y ≡ z
    → ((b ≡ true) × (x ≡ z)) ⊎ ((b ≡ false) × (y ≡ z))
chosen true x y z e = inl (refl, e)
chosen false x y z e = inr (refl, e)

-- the block is before those from one up to another, or behind them
abbrev pub IsBeside : (from to j : ℕ) → Type 0
IsBeside from to j = (j < from) ⊎ (to ≤ j)

pub beside : (from to j : ℕ) → is_among from to j ≡ false → IsBeside from to j
beside from to j e = elim (and_cases (nat_le from j) (nat_lt j to) e) [
  | inl p ↦ inl (leb-false from j p)
  | inr p ↦ inr (ltb-false j to p)
]

pub not_among : (from to j : ℕ) → IsBeside from to j → is_among from to j ≡ false
not_among from to j (inl h) = and_left (nat_le from j) (nat_lt j to) (lt-leb from j h)
not_among from to j (inr h) = and_right (nat_le from j) (nat_lt j to) (le-ltb j to h)

-- the place is at the head or behind it
abbrev pub IsPast : (cycle used at block : ℕ) → Type 0
IsPast cycle used at block = (cycle < at) ⊎ ((at ≡ cycle) × (used ≤ block))

-- the front passes the block where an article goes from one head to another place
abbrev pub passes : (blocks cycle used run first size j : ℕ) → Bool
passes blocks cycle used run first size j =
    is_among first (first + size) j || (not (run == cycle) && is_among used blocks j)

-- what was not passed by a begin, and isn't at the old head or behind it, was not passed before
pub held_before : (blocks : ℕ) (head at : Head) (size c j : ℕ) → IsPlaced blocks head size at
    → j < blocks
    → IsUnpassedBy at.run (at.used + size) c j
    → (IsUnpassedBy head.run head.used c j
    × (passes blocks head.run head.used at.run at.used size j ≡ false))
    ⊎ IsPast head.run head.used c j
held_before blocks head at size c j (inl p) h (inl q) = elim (cases_lt j head.used) [
  | inl k ↦ inl (
    inl (omega (arith, p.0, q.0), k),
    or_from (is_among at.used (at.used + size) j)
        (not (at.run == head.run) && is_among head.used blocks j)
        (not_among at.used (at.used + size) j (inl (omega (arith, p.1, k))))
        (and_left (not (at.run == head.run)) (is_among head.used blocks j)
        (not_from_true (at.run == head.run) (eq-eqb at.run head.run p.0))),
  )
  | inr k ↦ inr (inr (omega (arith, p.0, q.0), k))
]
held_before blocks head at size c j (inl p) h (inr q) =
    inl (
      inr (omega (arith, p.0, q.0), omega (arith, p.1, q.1)),
      or_from (is_among at.used (at.used + size) j)
          (not (at.run == head.run) && is_among head.used blocks j)
          (not_among at.used (at.used + size) j (inr q.1))
          (and_left (not (at.run == head.run)) (is_among head.used blocks j)
          (not_from_true (at.run == head.run) (eq-eqb at.run head.run p.0))),
    )
held_before blocks head at size c j (inr p) h (inl q) = inr (inl (omega (arith, p.0, q.0)))
held_before blocks head at size c j (inr p) h (inr q) = elim (cases_lt j head.used) [
  | inl k ↦ inl (
    inl (omega (arith, p.0, q.0), k),
    or_from (is_among at.used (at.used + size) j)
        (not (at.run == head.run) && is_among head.used blocks j)
        (not_among at.used (at.used + size) j (inr q.1))
        (and_right (not (at.run == head.run)) (is_among head.used blocks j)
        (not_among head.used blocks j (inl k))),
  )
  | inr k ↦ inr (inr (omega (arith, p.0, q.0), k))
]

-- what was not passed before, and is not passed by the begin, is not passed
pub held_after : (blocks : ℕ) (head at : Head) (size c j : ℕ) → IsPlaced blocks head size at
    → j < blocks
    → IsUnpassedBy head.run head.used c j
    → passes blocks head.run head.used at.run at.used size j ≡ false
    → IsUnpassedBy at.run (at.used + size) c j
held_after blocks head at size c j (inl p) h (inl q) e =
    inl (omega (arith, p.0, q.0), omega (arith, p.1, q.1))
held_after blocks head at size c j (inl p) h (inr q) e =
    elim (beside at.used (at.used + size) j
    (or_parts (is_among at.used (at.used + size) j)
    (not (at.run == head.run) && is_among head.used blocks j) e).0) [
      | inl k ↦ absurd (omega (arith, p.1, q.1, k))
      | inr k ↦ inr (omega (arith, p.0, q.0), k)
    ]
held_after blocks head at size c j (inr p) h (inl q) e =
    elim (beside at.used (at.used + size) j
    (or_parts (is_among at.used (at.used + size) j)
    (not (at.run == head.run) && is_among head.used blocks j) e).0) [
      | inl k ↦ absurd (omega (arith, p.1, k))
      | inr k ↦ inr (omega (arith, p.0, q.0), k)
    ]
held_after blocks head at size c j (inr p) h (inr q) e =
    elim (and_cases (not (at.run == head.run)) (is_among head.used blocks j)
    (or_parts (is_among at.used (at.used + size) j)
    (not (at.run == head.run) && is_among head.used blocks j) e).1) [
      | inl k ↦
          absurd (omega (arith, p.0, eqb-true at.run head.run (not-false (at.run == head.run) k)))
      | inr k ↦ elim (beside head.used blocks j k) [
        | inl m ↦ absurd (omega (arith, q.1, m))
        | inr m ↦ absurd (omega (arith, h, m))
      ]
    ]

-- a block is unpassed since one cycle at most
pub one_cycle : (cycle used c d block : ℕ) → IsUnpassedBy cycle used c block
    → IsUnpassedBy cycle used d block
    → c ≡ d
one_cycle cycle used c d block (inl p) (inl q) = omega (arith, p.0, q.0)
one_cycle cycle used c d block (inl p) (inr q) = absurd (omega (arith, p.1, q.1))
one_cycle cycle used c d block (inr p) (inl q) = absurd (omega (arith, p.1, q.1))
one_cycle cycle used c d block (inr p) (inr q) = omega (arith, p.0, q.0)

-- what isn't passed where the head is here isn't where it is told otherwise
pub moved : (cycle used c u since block : ℕ) → cycle ≡ c → used ≡ u
    → IsUnpassedBy cycle used since block → IsUnpassedBy c u since block
moved cycle used c u since block e f (inl p) = inl (p.0 ∙ e, omega (arith, p.1, f))
moved cycle used c u since block e f (inr p) = inr (p.0 ∙ e, omega (arith, p.1, f))
