-- Sequential: how the head of each buffer stands to the head of the whole list of sizes.
use Rattle.std.proofs.Common.{◌≡◌, ◌∙◌, ℕ, zero, suc, ◌+◌, ◌*◌, ◌/◌, ◌%◌, ◌≤◌, ◌<◌, ◌≢◌, nat_le}
use Rattle.std.proofs.Common.{nat_lt, Bool, true, false, ◌⊎◌, inl, inr, refl, sym, ap, arith}
use Rattle.std.proofs.Math.Nat.{add-mod_right, le_of_mul-le-mul_right, lt_of_mul-lt-mul_right}
use Rattle.std.proofs.Math.Nat.{eq_of_mul-eq-mul_right}
use Rattle.std.proofs.lemmas.Nat.{mod-mul-add, div-add-mod'}
use Rattle.std.proofs.lemmas.Bool.{cond-true, cond-false, cases_Bool, leb-true, leb-false, lt-ltb}
use Rattle.std.proofs.lemmas.Bool.{le-ltb}
use Rattle.news_terms.specs.Places.{Head, first_head, place_in_runs}
use Rattle.news_terms.specs.Picks.{place_after, head_past}
use Rattle.news_terms.proofs.PickedBegins.{fresh_place, plain_place, first_place}

-- a run is its cycle times the number of buffers, and its buffer
run_is : (m k run : ℕ) → run % m ≡ k → run / m * m + k ≡ run
run_is m k run turn = ap (λ r. run / m * m + r) (sym turn) ∙ div-add-mod' run m

-- run q * m + k is one of buffer k
run_of : (m k q run : ℕ) → k < m → run ≡ q * m + k → run % m ≡ k
run_of m k q run within e = ap (λ n. n % m) e ∙ mod-mul-add q m k within

-- the m-th run from here is of the same buffer
round_of : (m k q run : ℕ) → k < m → q * m + k ≡ run + m → run % m ≡ k
round_of m k q run within e = sym (add-mod_right run m) ∙ run_of m k q (run + m) within (sym e)

-- less than one round is none
no_round : (m q : ℕ) → q * m < m → q ≡ 0
no_round m q before = let h : q < 1 = lt_of_mul-lt-mul_right m (omega arith) in omega arith

-- a run has one cycle
one_cycle : (m k q run : ℕ) → 0 < m → run % m ≡ k → run ≡ q * m + k → q ≡ run / m
one_cycle m k q run some turn e =
    let is : run / m * m + k ≡ run = run_is m k run turn in
    eq_of_mul-eq-mul_right m some q (run / m) (omega arith)

-- the next run of the buffer of this one is in the next cycle
next_cycle_of : (m k q run : ℕ) → 0 < m → run % m ≡ k → run < q * m + k → q * m + k ≤ run + m
    → q ≡ run / m + 1
next_cycle_of m k q run some turn before within =
    let is : run / m * m + k ≡ run = run_is m k run turn in
    let later : run / m < q = lt_of_mul-lt-mul_right m (omega arith) in
    let no_later : q ≤ run / m + 1 = le_of_mul-le-mul_right {k = m} (omega arith) some in
    omega arith

-- how the own head of buffer k of m stands to the head of the whole list: in a run of its own they
-- are one but for the cycle; and a fresh begin would go to the front of its next run, which is at
-- most m runs on (unless nothing was begun and its run 0 is the current one)
pub record Is_cut (m k blocks : ℕ) (own head : Head) : Type 0 where
  pub here : (q : ℕ) → head.run ≡ q * m + k → own ≡ record { run = q; used = head.used }
  pub next : (q : ℕ) → 0 < head.run + head.used + k → head.run < q * m + k
      → q * m + k ≤ head.run + m → (size : ℕ) → size ≤ blocks
      → place_after blocks own true size ≡ record { run = q; used = 0 }

-- before any size
pub cut_first : (m k blocks : ℕ) → k < m → Is_cut m k blocks first_head first_head
cut_first m k blocks within = record {
  here = λ q e.
      let none : q ≡ 0 = no_round m q (omega arith) in
      ap (λ n. record { run = n; used = 0 }) (sym none);
  next = λ q some before within size fits.
      let none : q ≡ 0 = no_round m q (omega arith) in
      first_place blocks size fits ∙ ap (λ n. record { run = n; used = 0 }) (sym none);
}

-- how far a head is, where each size fits each run: within its run, and of a later run some is used
pub record Is_running (room : ℕ → ℕ) (head : Head) : Type 0 where
  pub within : head.used ≤ room head.run
  pub some : 0 < head.run → 0 < head.used

-- how the next article goes on: behind the head, not fresh; or fresh at the front of the next run,
-- where some of this one is used
abbrev pub Goes_on : (head at : Head) → (fresh : Bool) → (room size : ℕ) → Type 0
Goes_on head at fresh room size =
    ((at ≡ head) × (fresh ≡ false) × (head.used + size ≤ room))
    ⊎ ((at ≡ record { run = head.run + 1; used = 0 })
    × (fresh ≡ true) × (0 < head.used) × (0 < size))

-- so it goes on, where it fits the current run from its front
pub goes_on : (room : ℕ → ℕ) (head : Head) (size : ℕ) → size ≤ room head.run
    → Is_running room head
    → Goes_on head (place_in_runs room head size)
    (nat_lt head.run (place_in_runs room head size).run) (room head.run) size
goes_on room head size fits running =
    by_test (cases_Bool (nat_le (head.used + size) (room head.run)))
  where
    by_test : (nat_le (head.used + size) (room head.run) ≡ true)
        ⊎ (nat_le (head.used + size) (room head.run) ≡ false)
        → Goes_on head (place_in_runs room head size)
        (nat_lt head.run (place_in_runs room head size).run) (room head.run) size
    by_test (inl ends) =
        let at : place_in_runs room head size ≡ head =
        cond-true (nat_le (head.used + size) (room head.run)) _ _ ends in
        inl (
          at,
          ap (λ (h : Head). nat_lt head.run h.run) at ∙ le-ltb head.run head.run (omega arith),
          leb-true (head.used + size) (room head.run) ends,
        )
    by_test (inr full) =
        let at : place_in_runs room head size ≡ record { run = head.run + 1; used = 0 } =
        cond-false (nat_le (head.used + size) (room head.run)) _ _ full in
        let over : room head.run < head.used + size =
        leb-false (head.used + size) (room head.run) full in
        let within : head.used ≤ room head.run = running.within in
        inr (
          at,
          ap (λ (h : Head). nat_lt head.run h.run) at
              ∙ lt-ltb head.run (head.run + 1) (omega arith),
          omega arith,
          omega arith,
        )

-- past the next article the head is as far
pub running_on : (room : ℕ → ℕ) (head at : Head) (fresh : Bool) (size : ℕ)
    → ((run : ℕ) → size ≤ room run) → Is_running room head
    → Goes_on head at fresh (room head.run) size → Is_running room (head_past at size)
running_on room head at fresh size fits running (inl goes) =
    let run : at.run ≡ head.run = ap (λ (h : Head). h.run) goes.0 in
    let used : at.used ≡ head.used = ap (λ (h : Head). h.used) goes.0 in
    let same : room at.run ≡ room head.run = ap (λ (h : Head). room h.run) goes.0 in
    let ends : head.used + size ≤ room head.run = goes.2 in
    record {
      within = omega arith;
      some = λ later.
          let before : 0 < head.used = running.some (omega arith) in
          omega arith;
    }
running_on room head at fresh size fits running (inr goes) =
    let used : at.used ≡ 0 = ap (λ (h : Head). h.used) goes.0 in
    let within : size ≤ room at.run = fits at.run in
    let one : 0 < size = goes.3 in
    record { within = omega arith; some = λ later. omega arith }

-- the article's own place in its buffer is the run's cycle and the same block
pub place_here : (m k blocks : ℕ) (own head at : Head) (fresh : Bool) (size : ℕ) → 0 < m
    → at.run % m ≡ k → size ≤ blocks → Is_cut m k blocks own head
    → (room : ℕ) → (head.run % m ≡ k → room ≡ blocks) → Goes_on head at fresh room size
    → place_after blocks own fresh size ≡ record { run = at.run / m; used = at.used }
place_here m k blocks own head at fresh size some turn fits cut room same (inl goes) =
    let turned : head.run % m ≡ k = ap (λ (h : Head). h.run % m) (sym goes.0) ∙ turn in
    let own_is : own ≡ record { run = head.run / m; used = head.used } =
    cut.here (head.run / m) (sym (run_is m k head.run turned)) in
    let used : own.used ≡ head.used = ap (λ (h : Head). h.used) own_is in
    let is_room : room ≡ blocks = same turned in
    let within : head.used + size ≤ room = goes.2 in
    ap (λ f. place_after blocks own f size) goes.1
    ∙ plain_place blocks own size (omega arith)
    ∙ own_is
    ∙ ap (λ (h : Head). record { run = h.run / m; used = h.used }) (sym goes.0)
place_here m k blocks own head at fresh size some turn fits cut room same (inr goes) =
    let run : at.run ≡ head.run + 1 = ap (λ (h : Head). h.run) goes.0 in
    let used : at.used ≡ 0 = ap (λ (h : Head). h.used) goes.0 in
    let is : at.run / m * m + k ≡ at.run = run_is m k at.run turn in
    let part : 0 < head.used = goes.2 in
    ap (λ f. place_after blocks own f size) goes.1
    ∙ cut.next (at.run / m) (omega arith) (omega arith) (omega arith) size fits
    ∙ ap (λ n. record { run = at.run / m; used = n }) (sym used)

-- the own head past its own article stands to the head past it as before
pub cut_here : (m k blocks : ℕ) (at : Head) (size : ℕ) → 0 < m → at.run % m ≡ k
    → (0 < at.run → 0 < at.used + size)
    → Is_cut m k blocks (head_past (record { run = at.run / m; used = at.used }) size)
    (head_past at size)
cut_here m k blocks at size some turn later = record {
  here = λ q e.
      ap (λ n. record { run = n; used = at.used + size })
      (sym (one_cycle m k q at.run some turn e));
  next = λ q begun before within more fits.
      fresh_place blocks (head_past (record { run = at.run / m; used = at.used }) size) more
      (part begun at.run refl)
      ∙ ap (λ n. record { run = n; used = 0 })
      (sym (next_cycle_of m k q at.run some turn before within));
}
  where
    part : 0 < at.run + (at.used + size) + k → (run : ℕ) → at.run ≡ run → 0 < at.used + size
    part begun zero e =
        let first : k ≡ 0 = sym turn ∙ run_of m 0 0 at.run some (omega arith) in
        omega arith
    part begun (suc run) e = later (omega arith)

-- the own head of another buffer stands to the head past an article as it stood before
pub cut_elsewhere : (m k blocks : ℕ) (own head at : Head) (fresh : Bool) (size : ℕ) → k < m
    → (at.run % m ≡ k → ⊥) → (room : ℕ) → Goes_on head at fresh room size
    → Is_cut m k blocks own head → Is_cut m k blocks own (head_past at size)
cut_elsewhere m k blocks own head at fresh size inside other room (inl goes) cut =
    let run : at.run ≡ head.run = ap (λ (h : Head). h.run) goes.0 in
    record {
      here = λ q e. absurd (other (run_of m k q at.run inside e));
      next = λ q begun before within more fits.
          cut.next q (begun_before (head.run + k) refl) (omega arith) (omega arith) more fits;
    }
  where
    begun_before : (n : ℕ) → head.run + k ≡ n → 0 < head.run + head.used + k
    begun_before zero e =
        let run : at.run ≡ head.run = ap (λ (h : Head). h.run) goes.0 in
        absurd (other (run_of m k 0 at.run inside (omega arith)))
    begun_before (suc n) e = omega arith
cut_elsewhere m k blocks own head at fresh size inside other room (inr goes) cut =
    let run : at.run ≡ head.run + 1 = ap (λ (h : Head). h.run) goes.0 in
    let part : 0 < head.used = goes.2 in
    record {
      here = λ q e. absurd (other (run_of m k q at.run inside e));
      next = λ q begun before within more fits.
          let apart : q * m + k ≢ at.run + m = λ e. other (round_of m k q at.run inside e) in
          cut.next q (omega arith) (omega arith) (omega arith) more fits;
    }
