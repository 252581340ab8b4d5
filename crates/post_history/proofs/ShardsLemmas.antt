-- A row is gone through, item by item.
use Rattle.std.proofs.Common.{◌≡◌, ◌∙◌, ◌<◌, ◌≤◌, ◌+◌, ℕ, List, [], ◌∷◌, ◌++◌, All, ap}
use Rattle.std.proofs.Common.{append_assoc, arith, length, length-append, map, refl, slice_get}
use Rattle.std.proofs.Common.{Some, subst, suc, sym}
use Rattle.std.specs.List.{range_with_len}
use Rattle.std.proofs.lemmas.List.{append-nil, length-map, map-append, map-id}
use Rattle.std.proofs.lemmas.List.Elements.{All-push}
use Rattle.std.proofs.lemmas.List.FromFn.{map-range_with_len_more}

-- one is gone through, and others are left
pub one_through : {X : Type 0} (through left all : List X) (x : X) (more : List X)
    → through ++ left ≡ all → left ≡ x ∷ more → (through ++ x ∷ []) ++ more ≡ all
one_through through left all x more is next =
    append_assoc through (x ∷ []) more ∙ ap (λ rest. through ++ rest) (sym next) ∙ is

pub all_through : {X : Type 0} (through left all : List X) → through ++ left ≡ all → left ≡ []
    → through ≡ all
all_through through left all is none =
    sym (append-nil through) ∙ ap (λ rest. through ++ rest) (sym none) ∙ is

-- there is room for what is made of it
pub next_fits : {X Y : Type 0} (f : Y → X) (made : List Y) (through left all : List X) (x : X)
    (more : List X) (len room : ℕ) → map f made ≡ through → through ++ left ≡ all
    → left ≡ x ∷ more → len ≡ length made → length all ≤ room → len < room
next_fits f made through left all x more len room same is next long fits =
    omega (
      arith,
      sym (ap length same) ∙ length-map made f,
      ap length is,
      ap length next,
      length-append through left,
      long,
      fits,
    )

pub made_more : {X Y : Type 0} (f : Y → X) (made now : List Y) (y : Y) (through : List X) (x : X)
    → map f made ≡ through → now ≡ made ++ y ∷ [] → f y ≡ x → map f now ≡ through ++ x ∷ []
made_more f made now y through x same longer is =
    ap (map f) longer ∙ map-append f made (y ∷ []) ∙ (λ i. same i ++ is i ∷ [])

-- the one that is next is at the place of how many are gone through
pub one_there : {X : Type 0} (through left all : List X) (x : X) (more : List X)
    → through ++ left ≡ all → left ≡ x ∷ more → slice_get all (length through) ≡ Some x
one_there [] left all x more is next = ap (λ list. slice_get list 0) (sym is ∙ next)
one_there (gone ∷ through) left all x more is next =
    ap (λ list. slice_get list (suc (length through))) (sym is)
    ∙ one_there through left (through ++ left) x more refl next

-- the first so many numbers and the next one are one more
one_more_number : (n : ℕ) → range_with_len 0 n ++ n ∷ [] ≡ range_with_len 0 (n + 1)
one_more_number n =
    ap (λ (l : List ℕ). l ++ n ∷ []) (sym (map-id (range_with_len 0 n)))
    ∙ sym (map-range_with_len_more (λ (k : ℕ). k) 0 n n (omega arith))
    ∙ map-id (range_with_len 0 (n + 1))

-- numbers that are those of their places are so with one more
pub numbered_more : {Y : Type 0} (f : Y → ℕ) (made now : List Y) (y : Y) (len : ℕ)
    → map f made ≡ range_with_len 0 (length made) → now ≡ made ++ y ∷ [] → f y ≡ len
    → len ≡ length made → map f now ≡ range_with_len 0 (length now)
numbered_more f made now y len same longer is long =
    ap (map f) longer ∙ map-append f made (y ∷ [])
    ∙ (λ i. same i ++ (is ∙ long) i ∷ [])
    ∙ one_more_number (length made)
    ∙ ap (range_with_len 0) (sym (ap length longer ∙ length-append made (y ∷ [])))

-- what holds of each holds of each with one more of which it holds
pub all_more : {Y : Type 0} (P : Y → Type 0) (made now : List Y) (y : Y) → All P made
    → now ≡ made ++ y ∷ [] → P y → All P now
all_more P made now y all longer one =
    subst (All P) (sym longer) (All-push P made y all one)
