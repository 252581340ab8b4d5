-- Numbers that are those of their places.
use Rattle.std.proofs.Common.{◌≡◌, ◌∙◌, ℕ, ◌+◌, ◌<◌, List, [], ◌∷◌, ◌++◌, ap, arith, length, map}
use Rattle.std.proofs.Common.{◌≤◌, append-nil, get_or, length-append, subst, sym}
use Rattle.std.specs.List.{range_with_len}
use Rattle.std.specs.Prelude.{slice_index_or}
use Rattle.std.proofs.lemmas.List.{get_or-map, length-map, map-append, map-id}
use Rattle.std.proofs.lemmas.List.FromFn.{get_or-range_with_len, length-range_with_len}
use Rattle.std.proofs.lemmas.List.FromFn.{map-range_with_len_more}
use Rattle.relay_live.specs.Locked.{AreInOrder}

-- the first so many numbers and the next one are one more
pub one_more : (n : ℕ) → range_with_len 0 (n + 1) ≡ range_with_len 0 n ++ n ∷ []
one_more n =
    sym (map-id (range_with_len 0 (n + 1)))
    ∙ map-range_with_len_more (λ (k : ℕ). k) 0 n n (omega arith)
    ∙ ap (λ (l : List ℕ). l ++ n ∷ []) (map-id (range_with_len 0 n))

-- numbers in order are so with the next one
pub next_in_order : (numbers : List ℕ) → AreInOrder numbers
    → AreInOrder (numbers ++ length numbers ∷ [])
next_in_order numbers order =
    ap (λ (l : List ℕ). l ++ length numbers ∷ []) order
    ∙ sym (one_more (length numbers))
    ∙ ap (range_with_len 0) (sym (length-append numbers (length numbers ∷ [])))

-- so also where they are those of a row that has become longer
pub more_in_order : {X : Type 0} (f : X → ℕ) (xs new : List X) (x : X) → new ≡ xs ++ x ∷ []
    → f x ≡ length xs → AreInOrder (map f xs) → AreInOrder (map f new)
more_in_order f xs new x longer number order =
    subst (λ l. AreInOrder l)
    (ap (λ (n : ℕ). map f xs ++ n ∷ []) (length-map xs f ∙ sym number)
    ∙ sym (map-append f xs (x ∷ []))
    ∙ ap (map f) (sym longer))
    (next_in_order (map f xs) order)

-- a number behind none is itself
nothing_before : (n : ℕ) → 0 + n ≡ n
nothing_before n = omega arith

-- the number at a place is that of the place
pub number_at : (numbers : List ℕ) (place none : ℕ) → AreInOrder numbers → place < length numbers
    → slice_index_or numbers place none ≡ place
number_at numbers place none order within =
    ap (λ (l : List ℕ). slice_index_or l place none) order
    ∙ get_or-range_with_len 0 (length numbers) place none within
    ∙ nothing_before place

module _ {X Y Z : Type 0} (f : X → Z) (k : Y → Z) where
  -- what is read of two rows is the same with one item more of each, of which it is so
  pub both_pushed : (xs now : List X) (x : X) (ys : List Y) (y : Y) → map f xs ≡ map k ys
      → now ≡ xs ++ x ∷ [] → f x ≡ k y → map f now ≡ map k (ys ++ y ∷ [])
  both_pushed xs now x ys y same longer alike =
      ap (map f) longer
      ∙ map-append f xs (x ∷ [])
      ∙ (λ i. same i ++ alike i ∷ [])
      ∙ sym (map-append k ys (y ∷ []))

-- what is made of each item of a row is so of one more
pub made_pushed : {X Z : Type 0} (f : X → Z) (zs now : List Z) (z : Z) (xs : List X) (x : X)
    → zs ≡ map f xs → now ≡ zs ++ z ∷ [] → z ≡ f x → now ≡ map f (xs ++ x ∷ [])
made_pushed f zs now z xs x same longer is =
    longer ∙ (λ i. same i ++ is i ∷ []) ∙ sym (map-append f xs (x ∷ []))

-- rows that are as long are so with one item more of each
pub both_longer : {X Y : Type 0} (xs now : List X) (x : X) (ys : List Y) (y : Y)
    → length xs ≡ length ys → now ≡ xs ++ x ∷ [] → length now ≡ length (ys ++ y ∷ [])
both_longer xs now x ys y same longer =
    ap length longer
    ∙ length-append xs (x ∷ [])
    ∙ ap (λ n. n + 1) same
    ∙ sym (length-append ys (y ∷ []))

-- of a row whose numbers are in order the item at a place has the number of the place
pub number_in_row : {X : Type 0} (f : X → ℕ) (xs : List X) (place : ℕ) (x : X)
    → AreInOrder (map f xs) → place < length xs → x ≡ get_or xs place x → f x ≡ place
number_in_row f xs place x order within here =
    ap f here
    ∙ sym (get_or-map f xs place x 0 within)
    ∙ number_at (map f xs) place 0 order (subst (λ n. place < n) (sym (length-map xs f)) within)

-- as many stand beside the first so many numbers
pub as_many : (numbers : List ℕ) (beside n : ℕ) → numbers ≡ range_with_len 0 n
    → length numbers ≡ beside → beside ≡ n
as_many numbers beside n are long = sym long ∙ ap length are ∙ length-range_with_len 0 n

-- there is room for one of those that are left
pub one_left : {X : Type 0} (f : X → ℕ) (xs : List X) (left next all : List ℕ)
    (n len count room : ℕ) → map f xs ++ left ≡ all → left ≡ n ∷ next → len ≡ length xs
    → length all ≡ count → count ≤ room → len < room
one_left f xs left next all n len count room same is long are fits =
    omega (
      arith,
      sym (length-append (map f xs) left) ∙ ap length same,
      length-map xs f,
      ap length is,
      long,
      are,
      fits,
    )

-- a row is as long as what is read of it
pub as_long : {X Y : Type 0} (f : X → Y) (xs : List X) (ys : List Y) → map f xs ≡ ys
    → length xs ≡ length ys
as_long f xs ys same = sym (length-map xs f) ∙ ap length same

-- a row is as long as what is read of it once nothing else is left
pub all_out : {X Z : Type 0} (f : X → Z) (xs : List X) (all left : List Z) → map f xs ++ left ≡ all
    → left ≡ [] → length xs ≡ length all
all_out f xs all left same none =
    as_long f xs all (sym (append-nil (map f xs)) ∙ ap (λ l. map f xs ++ l) (sym none) ∙ same)
