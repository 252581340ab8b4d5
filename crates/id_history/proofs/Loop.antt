-- Reading those of a kind one after the other, as a loop does.
use Rattle.std.proofs.Common.{◌≡◌, ℕ, suc, ◌-◌, ◌+◌, ◌≤◌, ◌<◌, List, [], ◌∷◌, ◌++◌, Option, Some}
use Rattle.std.proofs.Common.{None, refl, sym, ap, ◌∙◌, append_assoc, arith}
use Rattle.std.proofs.lemmas.List.{append-nil}
use Rattle.id_history.specs.declared.fault.HistoryError.{HistoryError}
use Rattle.id_history.specs.declared.fault.HistoryError.TheVariants.{Memory, BadHistory}
use Rattle.id_history.specs.Reading.{◌>>=◌, Fails, times_at}

module _ {X : Type 0} where
  -- what was read before, and what is still read
  abbrev pub with_front : List X → Option (List X × List ℕ) → Option (List X × List ℕ)
  with_front front read = read >>= λ x. Some (front ++ x.0, x.1)

  regroup : (front : List X) (one : X) (read : Option (List X × List ℕ))
      → with_front front (read >>= λ x. Some (one ∷ x.0, x.1))
      ≡ with_front (front ++ one ∷ []) read
  regroup front one (Some x) = ap (λ (xs : List X). Some (xs, x.1)) (simp append_assoc)
  regroup front one None = refl

  -- one more was read
  pub goes_on : (at : List ℕ → Option (X × List ℕ)) (front : List X) (count i : ℕ)
      (bytes : List ℕ) (one : X) (after : List ℕ) (total : Option (List X × List ℕ)) → i < count
      → at bytes ≡ Some (one, after) → with_front front (times_at at (count - i) bytes) ≡ total
      → with_front (front ++ one ∷ []) (times_at at (count - (i + 1)) after) ≡ total
  unfolding times_at
  goes_on at front count i bytes one after total lt h so_far =
      let k : count - i ≡ suc (count - (i + 1)) = omega arith in
      let step : with_front front (times_at at (count - i) bytes)
      ≡ with_front (front ++ one ∷ []) (times_at at (count - (i + 1)) after) =
      rw (k, h) (regroup front one (times_at at (count - (i + 1)) after)) in
      sym step ∙ so_far

  -- the next one can't be read
  pub ends : (at : List ℕ → Option (X × List ℕ)) (e : HistoryError) (front : List X)
      (count i : ℕ) (bytes : List ℕ) (total : Option (List X × List ℕ)) → i < count
      → Fails e (at bytes) → with_front front (times_at at (count - i) bytes) ≡ total
      → Fails e total
  unfolding times_at
  ends at Memory front count i bytes total lt h so_far = tt
  ends at BadHistory front count i bytes total lt h so_far =
      let k : count - i ≡ suc (count - (i + 1)) = omega arith in
      let step : with_front front (times_at at (count - i) bytes) ≡ None = rw (k, h) refl in
      sym so_far ∙ step

  -- all were read
  pub is_done : (at : List ℕ → Option (X × List ℕ)) (front : List X) (count i : ℕ)
      (bytes : List ℕ) (total : Option (List X × List ℕ)) → count ≤ i
      → with_front front (times_at at (count - i) bytes) ≡ total → total ≡ Some (front, bytes)
  unfolding times_at
  is_done at front count i bytes total le so_far =
      let k : count - i ≡ 0 = omega arith in
      let step : with_front front (times_at at (count - i) bytes) ≡ Some (front, bytes) =
      rw k (ap (λ (xs : List X). Some (xs, bytes)) (append-nil front)) in
      sym so_far ∙ step
