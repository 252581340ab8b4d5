-- Where elements of lists are.
use Rattle.std.proofs.Common.{◌≡◌, ◌≢◌, ℕ, zero, suc, ◌+◌, ◌<◌, Bool, true, ◌⊎◌, inl, inr}
use Rattle.std.proofs.Common.{List, [], ◌∷◌, ◌++◌, length, All, Option, Some, slice_get}
use Rattle.std.proofs.Common.{refl, ap, ◌∙◌, sym, subst, arith, map}
use Rattle.std.specs.Option.{option_map}
use Rattle.std.specs.List.{list_any, enumerate_from}
use Rattle.std.proofs.lemmas.Bool.{or_left, or_right}
use Rattle.std.specs.Prelude.{filter_map}
use Rattle.std.specs.List.{cons_option}
use Rattle.std.proofs.lemmas.List.Elements.{All-head, All-tail, All-cons, All-nil}
use Rattle.std.proofs.lemmas.Option.{same_Some, get_or_from_slice_get, slice_get_within}

-- What is in a list and one more is in the list, or is that one.
pub at_pushed : {X : Type 0} (xs : List X) (y : X) (i : ℕ) (x : X)
    → slice_get (xs ++ y ∷ []) i ≡ Some x
    → (slice_get xs i ≡ Some x) ⊎ ((i ≡ length xs) × (y ≡ x))
at_pushed [] y zero x e = inr (refl, same_Some y x e)
at_pushed [] y (suc i) x e = cc
at_pushed (z ∷ xs) y zero x e = inl e
at_pushed (z ∷ xs) y (suc i) x e = elim (at_pushed xs y i x e) [
  | inl there ↦ inl there
  | inr last ↦ inr (omega (arith, last.0), last.1)
]

-- What holds of each of a list holds of the one at a place.
pub holds_at : {X : Type 0} (P : X → Type 0) (xs : List X) → All P xs → (i : ℕ) (x : X)
    → slice_get xs i ≡ Some x → P x
holds_at P xs all i x there =
    subst P (get_or_from_slice_get xs i x x there) (all i x (slice_get_within xs i x there))

-- What is within a list is there.
pub there_within : {X : Type 0} (xs : List X) (i : ℕ) → i < length xs
    → (x : X) × (slice_get xs i ≡ Some x)
there_within [] i within = absurd (omega (arith, within))
there_within (y ∷ xs) zero within = (y, refl)
there_within (y ∷ xs) (suc i) within = there_within xs i (omega (arith, within))

-- What is in a mapped list comes from what is there.
pub mapped_at : {X Y : Type 0} (f : X → Y) (xs : List X) (i : ℕ) (y : Y)
    → slice_get (map f xs) i ≡ Some y → (x : X) × (slice_get xs i ≡ Some x) × (f x ≡ y)
mapped_at f [] i y e = cc
mapped_at f (x ∷ xs) zero y e = (x, refl, same_Some (f x) y e)
mapped_at f (x ∷ xs) (suc i) y e = mapped_at f xs i y e

-- A test is passed by a list in which an element passes it.
pub found_at : {X : Type 0} (p : X → Bool) (xs : List X) (i : ℕ) (x : X)
    → slice_get xs i ≡ Some x → p x ≡ true → list_any p xs ≡ true
found_at p [] i x e t = cc
found_at p (y ∷ xs) zero x e t =
    or_left (p y) (list_any p xs) (ap p (same_Some y x e) ∙ t)
found_at p (y ∷ xs) (suc i) x e t = or_right (p y) (list_any p xs) (found_at p xs i x e t)

-- An element is where it is numbered from a number on.
pub numbered_at : {X : Type 0} (n : ℕ) (xs : List X) (i : ℕ)
    → slice_get (enumerate_from n xs) i ≡ option_map (λ x. (n + i, x)) (slice_get xs i)
numbered_at n [] i = refl
numbered_at {X} n (x ∷ xs) zero = ap (λ k. Some (k, x)) (omega arith)
numbered_at {X} n (x ∷ xs) (suc i) =
    numbered_at (n + 1) xs i
    ∙ ap (λ k. option_map (λ (y : X). (k, y)) (slice_get xs i)) (omega arith)

-- Elements that are looked up are each there, in their order.
pub looked_up_at : {X : Type 0} (all : List X) (places : List ℕ)
    → All (λ n. n < length all) places → (i : ℕ) (x : X)
    → slice_get (filter_map (slice_get all) places) i ≡ Some x
    → (n : ℕ) × (slice_get places i ≡ Some n) × (slice_get all n ≡ Some x)
looked_up_at all [] within i x e = cc
looked_up_at {X} all (n ∷ more) within zero x e =
    let one = there_within all n (All-head (λ k. k < length all) n more within) in
    let rest = filter_map (slice_get all) more in
    let here : Some one.0 ≡ Some x =
    subst (λ (o : Option X). slice_get (cons_option o rest) zero ≡ Some x) one.1 e in
    (n, refl, one.1 ∙ here)
looked_up_at {X} all (n ∷ more) within (suc i) x e =
    let one = there_within all n (All-head (λ k. k < length all) n more within) in
    let rest = filter_map (slice_get all) more in
    looked_up_at all more (All-tail (λ k. k < length all) n more within) i x
    (subst (λ (o : Option X). slice_get (cons_option o rest) (suc i) ≡ Some x) one.1 e)

-- They are as many.
pub looked_up_length : {X : Type 0} (all : List X) (places : List ℕ)
    → All (λ n. n < length all) places
    → length (filter_map (slice_get all) places) ≡ length places
looked_up_length all [] within = refl
looked_up_length {X} all (n ∷ more) within =
    let one = there_within all n (All-head (λ k. k < length all) n more within) in
    let rest = filter_map (slice_get all) more in
    let same = looked_up_length all more (All-tail (λ k. k < length all) n more within) in
    ap (λ (o : Option X). length (cons_option o rest)) one.1 ∙ omega (arith, same)

-- no element of a list is there twice
abbrev pub Apart : {X : Type 0} → List X → Type 0
Apart {X} xs =
    (i j : ℕ) (x : X) → slice_get xs i ≡ Some x → slice_get xs j ≡ Some x → i ≡ j

-- So it is of a list and one more that isn't in it.
pub apart_more : {X : Type 0} (xs : List X) (y : X)
    → ((i : ℕ) → slice_get xs i ≢ Some y) → Apart xs → Apart (xs ++ y ∷ [])
apart_more {X} xs y new apart i j x at other =
    by_places (at_pushed xs y i x at) (at_pushed xs y j x other)
  where
    by_places : (slice_get xs i ≡ Some x) ⊎ ((i ≡ length xs) × (y ≡ x))
        → (slice_get xs j ≡ Some x) ⊎ ((j ≡ length xs) × (y ≡ x)) → i ≡ j
    by_places (inl a) (inl b) = apart i j x a b
    by_places (inl a) (inr b) = absurd (new i (a ∙ ap (λ (z : X). Some z) (sym b.1)))
    by_places (inr a) (inl b) = absurd (new j (b ∙ ap (λ (z : X). Some z) (sym a.1)))
    by_places (inr a) (inr b) = a.0 ∙ sym b.0

-- What holds of one holds of each of a list of it alone.
pub all_one : {X : Type 0} (P : X → Type 0) (x : X) → P x → All P (x ∷ [])
all_one P x holds = All-cons P x [] holds (All-nil P)

-- Behind the front of a list stands the next element.
pub next_behind : {X : Type 0} (front : List X) (x : X) (rest : List X)
    → slice_get (front ++ x ∷ rest) (length front) ≡ Some x
next_behind [] x rest = refl
next_behind (y ∷ front) x rest = next_behind front x rest
