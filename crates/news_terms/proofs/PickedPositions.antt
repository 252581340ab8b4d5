-- A group picks by its position, and the position after one more size follows from the pick.
use Rattle.std.proofs.Common.{◌≡◌, ◌∙◌, ℕ, ◌+◌, ◌*◌, ◌/◌, ◌%◌, ◌<◌, ◌≢◌, ◌==◌, nat_le, nat_lt, true}
use Rattle.std.proofs.Common.{false, length, List, [], ◌∷◌, ◌++◌, ◌⊎◌, inl, inr, if◌then◌else◌}
use Rattle.std.proofs.Common.{refl, sym, ap, arith, zero-add, mod-lt, length-append}
use Rattle.std.proofs.lemmas.Nat.{mod-mul-add, div-add-mod'}
use Rattle.std.proofs.lemmas.Bool.{cond-true, cond-false, cases_Bool, cases_eq, eq-eqb, ne_eqb}
use Rattle.std.proofs.lemmas.Bool.{lt-ltb, le-ltb}
use Rattle.news_terms.specs.Picks.{pick_of, pick_of_run, room_of}
use Rattle.news_terms.specs.Places.{Buffer, Group, Mode, Interleave, Sequential, Head, head_after}
use Rattle.news_terms.specs.Places.{place_in_runs}
use Rattle.news_terms.specs.Positions.{position_of, index_after, pick_at, position_past}
use Rattle.news_terms.proofs.RunPlaces.{head_push}

-- one more is of the buffer after
next_index : (m n : ℕ) → 0 < m → (n + 1) % m ≡ index_after m (n % m)
next_index m n some = by_last (cases_eq (n % m + 1) m)
  where
    is : n / m * m + n % m ≡ n
    is = div-add-mod' n m

    by_last : (n % m + 1 ≡ m) ⊎ (n % m + 1 ≡ m → ⊥) → (n + 1) % m ≡ index_after m (n % m)
    by_last (inl last) =
        let round : n + 1 ≡ (n / m + 1) * m + 0 = omega (arith, is) in
        ap (λ k. k % m) round
        ∙ mod-mul-add (n / m + 1) m 0 some
        ∙ sym (cond-true (n % m + 1 == m) _ _ (eq-eqb (n % m + 1) m last))
    by_last (inr other) =
        let below : n % m < m = mod-lt n some in
        let apart : n % m + 1 ≢ m = other in
        let within : n % m + 1 < m = omega arith in
        let same : n + 1 ≡ n / m * m + (n % m + 1) = omega (arith, is) in
        ap (λ k. k % m) same
        ∙ mod-mul-add (n / m) m (n % m + 1) within
        ∙ sym (cond-false (n % m + 1 == m) _ _ (ne_eqb (n % m + 1) m other))

-- Sequential: the pick where the article goes on, by the test whether it fits the run
pick_of_head : (buffers : List Buffer) (head : Head) (size : ℕ) → 0 < length buffers
    → pick_of_run (length buffers) head (place_in_runs (room_of buffers) head size)
    ≡ pick_at Sequential buffers
    (record { index = head.run % length buffers; used = head.used }) size
pick_of_head buffers head size some =
    by_test (cases_Bool (nat_le (head.used + size) (room_of buffers head.run)))
  where
    by_test : (nat_le (head.used + size) (room_of buffers head.run) ≡ true)
        ⊎ (nat_le (head.used + size) (room_of buffers head.run) ≡ false)
        → pick_of_run (length buffers) head (place_in_runs (room_of buffers) head size)
        ≡ pick_at Sequential buffers
        (record { index = head.run % length buffers; used = head.used }) size
    by_test (inl fits) =
        ap (pick_of_run (length buffers) head)
        (cond-true (nat_le (head.used + size) (room_of buffers head.run)) _ _ fits)
        ∙ ap (λ t. record { index = head.run % length buffers; fresh = t })
        (le-ltb head.run head.run (omega arith))
        ∙ sym (cond-true (nat_le (head.used + size) (room_of buffers head.run)) _ _ fits)
    by_test (inr full) =
        ap (pick_of_run (length buffers) head)
        (cond-false (nat_le (head.used + size) (room_of buffers head.run)) _ _ full)
        ∙ ap (λ t. record { index = (head.run + 1) % length buffers; fresh = t })
        (lt-ltb head.run (head.run + 1) (omega arith))
        ∙ ap (λ i. record { index = i; fresh = true })
        (next_index (length buffers) head.run some)
        ∙ sym (cond-false (nat_le (head.used + size) (room_of buffers head.run)) _ _ full)

-- Sequential: the blocks used after the article
used_of_head : (room : ℕ → ℕ) (head : Head) (size : ℕ)
    → (place_in_runs room head size).used + size
    ≡ (if nat_lt head.run (place_in_runs room head size).run then size else head.used + size)
used_of_head room head size =
    by_test (cases_Bool (nat_le (head.used + size) (room head.run)))
  where
    by_place : (at : Head) → (at ≡ head) ⊎ (at ≡ record { run = head.run + 1; used = 0 })
        → at.used + size ≡ (if nat_lt head.run at.run then size else head.used + size)
    by_place at (inl same) =
        ap (λ (h : Head). h.used + size) same
        ∙ sym (cond-false (nat_lt head.run at.run) _ _
        (ap (λ (h : Head). nat_lt head.run h.run) same
        ∙ le-ltb head.run head.run (omega arith)))
    by_place at (inr next) =
        ap (λ (h : Head). h.used + size) next
        ∙ zero-add size
        ∙ sym (cond-true (nat_lt head.run at.run) _ _
        (ap (λ (h : Head). nat_lt head.run h.run) next
        ∙ lt-ltb head.run (head.run + 1) (omega arith)))

    by_test : (nat_le (head.used + size) (room head.run) ≡ true)
        ⊎ (nat_le (head.used + size) (room head.run) ≡ false)
        → (place_in_runs room head size).used + size
        ≡ (if nat_lt head.run (place_in_runs room head size).run then size else head.used + size)
    by_test (inl fits) =
        by_place (place_in_runs room head size)
        (inl (cond-true (nat_le (head.used + size) (room head.run)) _ _ fits))
    by_test (inr full) =
        by_place (place_in_runs room head size)
        (inr (cond-false (nat_le (head.used + size) (room head.run)) _ _ full))

-- what a group picks is what its position gives
pub picked_at : (group : Group) → 0 < length group.buffers → (begun : List ℕ) (size : ℕ)
    → pick_of group begun size ≡ pick_at group.mode group.buffers (position_of group begun) size
picked_at group some begun size = by_mode group.mode group.buffers some
  where
    by_mode : (mode : Mode) (buffers : List Buffer) → 0 < length buffers
        → pick_of (record { mode = mode; buffers = buffers }) begun size
        ≡ pick_at mode buffers (position_of (record { mode = mode; buffers = buffers }) begun)
        size
    by_mode Interleave buffers some = refl
    by_mode Sequential buffers some =
        pick_of_head buffers (head_after (room_of buffers) begun) size some

-- the position after one more size follows from the position before it, and the pick
pub position_push : (group : Group) → 0 < length group.buffers → (begun : List ℕ) (size : ℕ)
    → position_of group (begun ++ size ∷ [])
    ≡ position_past group.mode group.buffers (position_of group begun)
    (pick_of group begun size) size
position_push group some begun size = by_mode group.mode group.buffers some
  where
    by_mode : (mode : Mode) (buffers : List Buffer) → 0 < length buffers
        → position_of (record { mode = mode; buffers = buffers }) (begun ++ size ∷ [])
        ≡ position_past mode buffers
        (position_of (record { mode = mode; buffers = buffers }) begun)
        (pick_of (record { mode = mode; buffers = buffers }) begun size) size
    by_mode Interleave buffers some =
        let count : length (begun ++ size ∷ []) ≡ length begun + 1 =
        length-append begun (size ∷ []) in
        ap (λ n. record { index = n % length buffers; used = 0 }) count
        ∙ ap (λ i. record { index = i; used = 0 })
        (next_index (length buffers) (length begun) some)
    by_mode Sequential buffers some =
        ap (λ (h : Head). record { index = h.run % length buffers; used = h.used })
        (head_push (room_of buffers) begun size)
        ∙ ap
        (λ n. record {
          index = (place_in_runs (room_of buffers) (head_after (room_of buffers) begun) size).run
              % length buffers;
          used = n;
        })
        (used_of_head (room_of buffers) (head_after (room_of buffers) begun) size)
