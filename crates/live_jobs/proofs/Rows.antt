-- Rows that are taken from the front, and rows that grow.
use Rattle.std.proofs.Common.{◌≡◌, ◌<◌, ◌≤◌, ◌⊎◌, inl, inr, ℕ, zero, suc, ◌+◌, List, [], ◌∷◌}
use Rattle.std.proofs.Common.{◌++◌, length}
use Rattle.std.proofs.Common.{None, Some, refl, sym, ap, ◌∙◌, subst, ⊎_elim, arith}
use Rattle.std.proofs.lemmas.Option.{same_Some}
use Rattle.std.specs.Prelude.{slice_get}
use Rattle.live_jobs.specs.Rows.{From}

-- a row counted from 0
pub zero_add : (n : ℕ) → 0 + n ≡ n
zero_add n = omega arith

-- what is there isn't missing
pub never_none : {A B : Type 0} (x : A) → Some x ≡ None → B
never_none x none = absurd (cc)

-- what is below a number is below the same number
pub below_same : (k n m : ℕ) → k < n → n ≡ m → k < m
below_same k n m less same = subst (λ (j : ℕ). k < j) same less

-- and what isn't below a number isn't below the same number
pub past_same : (k n m : ℕ) → n ≤ k → n ≡ m → m ≤ k
past_same k n m past same = subst (λ (j : ℕ). j ≤ k) same past

-- what is below a number is below one that isn't less
pub below_past : (k n m : ℕ) → k < n → n ≤ m → k < m
below_past k n m below past = omega (arith, below, past)

-- one is taken of those that are left, and one is put: all are still as many
pub still_all : (put left put' left' all : ℕ) → put + left ≡ all → put' ≡ put + 1
    → left' + 1 ≡ left → put' + left' ≡ all
still_all put left put' left' all so_far more less = omega (arith, so_far, more, less)

-- where none is left, all were put
pub put_all : (put left all : ℕ) → put + left ≡ all → left ≡ 0 → put ≡ all
put_all put left all so_far none = omega (arith, so_far, none)

-- those that were put are no more than all
pub put_some : (put left all : ℕ) → put + left ≡ all → put ≤ all
put_some put left all so_far = omega (arith, so_far)

-- where one is left, those that were put are fewer than any that are as many as all
pub put_below : (put left left' all many : ℕ) → put + left ≡ all → left' + 1 ≡ left
    → all ≤ many → put < many
put_below put left left' all many so_far less few = omega (arith, so_far, less, few)

-- one more is counted, and one fewer is left to count
pub counted_on : (counted left left' all : ℕ) → counted + left ≡ all → left ≡ 1 + left'
    → (counted + 1) + left' ≡ all
counted_on counted left left' all so_far one = omega (arith, so_far, one)

pub one_counted : (counted left left' all : ℕ) → counted + left ≡ all → left ≡ suc left'
    → (counted + 1) + left' ≡ all
one_counted counted left left' all so_far one = omega (arith, so_far, one)

-- none more is counted
pub counted_still : (counted left left' all : ℕ) → counted + left ≡ all → left ≡ 0 + left'
    → counted + left' ≡ all
counted_still counted left left' all so_far none = omega (arith, so_far, none)

-- with fewer left there are fewer than before
pub fewer_left : (counted left left' most : ℕ) → counted + left < most → left ≡ suc left'
    → counted + left' < most
fewer_left counted left left' most few one = omega (arith, few, one)

-- the same where one is counted
pub few_counted : (counted left left' most : ℕ) → counted + left < most → left ≡ suc left'
    → (counted + 1) + left' < most
few_counted counted left left' most few one = omega (arith, few, one)

-- where there is room for all there is room for some
pub within_room : (some all many room : ℕ) → some ≤ all → many ≡ all → many ≤ room → some ≤ room
within_room some all many room few same enough = omega (arith, few, same, enough)

-- the same room is still enough
pub room_stays : (all room room' : ℕ) → all ≤ room → room' ≡ room → all ≤ room'
room_stays all room room' enough same = subst (λ (n : ℕ). all ≤ n) (sym same) enough

module _ {X : Type 0} where
  pub from_head : (P : ℕ → X → Type 0) (n : ℕ) (xs : List X) (x : X) (ys : List X) → From P n xs
      → xs ≡ x ∷ ys → P n x
  from_head P n xs x ys all is =
      subst (λ (k : ℕ). P k x) (add_none n) (all 0 x (ap (λ (l : List X). slice_get l 0) is))
    where
      add_none : (n : ℕ) → n + 0 ≡ n
      add_none n = omega arith

  pub from_tail : (P : ℕ → X → Type 0) (n : ℕ) (xs : List X) (x : X) (ys : List X) → From P n xs
      → xs ≡ x ∷ ys → From P (n + 1) ys
  from_tail P n xs x ys all is k y at =
      subst (λ (j : ℕ). P j y) (shift n k)
      (all (suc k) y (ap (λ (l : List X). slice_get l (suc k)) is ∙ at))
    where
      shift : (n k : ℕ) → n + suc k ≡ (n + 1) + k
      shift n k = omega arith

  pub get_snoc : (xs : List X) (a : X) (k : ℕ) (b : X) → slice_get (xs ++ a ∷ []) k ≡ Some b
      → (slice_get xs k ≡ Some b) ⊎ ((k ≡ length xs) × (a ≡ b))
  get_snoc [] a zero b e = inr (refl, same_Some a b e)
  get_snoc [] a (suc k) b e = absurd (cc)
  get_snoc (x ∷ xs) a zero b e = inl e
  get_snoc (x ∷ xs) a (suc k) b e =
      ⊎_elim (λ (t : slice_get xs k ≡ Some b). inl t)
      (λ (t : (k ≡ length xs) × (a ≡ b)). inr (ap suc t.0, t.1)) (get_snoc xs a k b e)

  pub each_snoc : (P : ℕ → X → Type 0) (xs now : List X) (a : X) → From P 0 xs → now ≡ xs ++ a ∷ []
      → P (length xs) a → From P 0 now
  each_snoc P xs now a all is last k b at =
      ⊎_elim (λ (t : slice_get xs k ≡ Some b). all k b t)
      (λ (t : (k ≡ length xs) × (a ≡ b)). subst (λ (x : ℕ × X). P x.0 x.1)
      (λ i. (sym (zero_add k ∙ t.0) i, t.1 i)) last)
      (get_snoc xs a k b (ap (λ (l : List X). slice_get l k) (sym is) ∙ at))

  pub length_snoc : (xs now : List X) (a : X) → now ≡ xs ++ a ∷ [] → length now ≡ length xs + 1
  length_snoc xs now a is = ap length is ∙ go xs
    where
      go : (ys : List X) → length (ys ++ a ∷ []) ≡ length ys + 1
      go [] = omega arith
      go (y ∷ ys) = let h = go ys in omega arith

  pub from_start : (P : ℕ → X → Type 0) (n : ℕ) (xs ys : List X) → From P 0 xs → 0 ≡ n
      → ys ≡ xs → From P n ys
  from_start P n xs ys all zero_is same =
      subst (λ (x : ℕ × List X). From P x.0 x.1) (λ i. (zero_is i, sym same i)) all

  pub from_none : (P : ℕ → X → Type 0) (xs : List X) → length xs ≡ 0 → From P 0 xs
  from_none P [] none k x at = absurd (cc)
  from_none P (y ∷ xs) none k x at = absurd (omega arith)

  pub from_next : (P : ℕ → X → Type 0) (n m : ℕ) (xs : List X) (x : X) (ys : List X) → From P n xs
      → xs ≡ x ∷ ys → m ≡ n + 1 → From P m ys
  from_next P n m xs x ys all is next =
      subst (λ (k : ℕ). From P k ys) (sym next) (from_tail P n xs x ys all is)

  -- what holds of each, whatever its number
  pub from_any : (P : X → Type 0) (xs : List X) (x : X) (ys : List X) → From (λ n y. P y) 0 xs
      → xs ≡ x ∷ ys → From (λ n y. P y) 0 ys
  from_any P xs x ys all is k y at =
      all (suc k) y (ap (λ (l : List X). slice_get l (suc k)) is ∙ at)
