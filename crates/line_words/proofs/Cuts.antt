-- How a text is cut into its parts: at the first octet of the kind.
use Rattle.std.proofs.Common.{◌≡◌, ℕ, ◌≤◌, ◌+◌, Bool, true, false, cond, ltb, List, [], ◌∷◌, length}
use Rattle.std.proofs.Common.{take, drop, Option, Some, None, refl, sym, arith, add-one, map, ◌==◌}
use Rattle.std.specs.List.{slice_split, position_or_len}
use Rattle.line_words.specs.Parts.{one_of, parts, parts_after}
use Rattle.std.proofs.lemmas.Bool.{ltb-true, ltb-false}
use Rattle.std.proofs.lemmas.List.Splits.{slice_split_first, length-slice_split}
use Rattle.std.proofs.lemmas.List.Sums.{count_by-le-length}
use Rattle.std.specs.Borrow.{Bor}

-- what `position` gives: the first place that passes, where there is one
abbrev pub place_of : {X : Type 0} → (X → Bool) → List X → Option ℕ
place_of p xs =
    cond (ltb (position_or_len p xs) (length xs)) (Some (position_or_len p xs)) None

-- A text with no such octet is one part.
pub one_part : (p : ℕ → Bool) (text : List ℕ) → length text ≤ position_or_len p text
    → slice_split p text ≡ text ∷ []
one_part p [] h = refl
one_part p (x ∷ xs) h =
    by_test (p x) refl (λ (k : length xs ≤ position_or_len p xs). one_part p xs k)
  where
    by_test : (b : Bool) → p x ≡ b
        → (length xs ≤ position_or_len p xs → slice_split p xs ≡ xs ∷ [])
        → slice_split p (x ∷ xs) ≡ (x ∷ xs) ∷ []
    by_test true e after =
        let k : length (x ∷ xs) ≤ 0 = rw e at h in absurd (omega (arith, k))
    by_test false e after =
        let k : length (x ∷ xs) ≤ 1 + position_or_len p xs = rw e at h in
        rw (e, after (omega (arith, k))) refl

-- Where `position` finds nothing, the text is one part.
pub uncut : (p : ℕ → Bool) (text : List ℕ) → place_of p text ≡ None
    → slice_split p text ≡ text ∷ []
uncut p text e = by_test (ltb (position_or_len p text) (length text)) refl
  where
    by_test : (b : Bool) → ltb (position_or_len p text) (length text) ≡ b
        → slice_split p text ≡ text ∷ []
    by_test true t = let k : Some (position_or_len p text) ≡ None = rw t at e in cc
    by_test false t = one_part p text (ltb-false (position_or_len p text) (length text) t)

-- Where `position` finds a place, the first part ends there.
pub cut_at : (p : ℕ → Bool) (text : List ℕ) (at : ℕ) → place_of p text ≡ Some at
    → slice_split p text ≡ take at text ∷ slice_split p (drop (at + 1) text)
cut_at p text at e = by_test (ltb (position_or_len p text) (length text)) refl
  where
    by_test : (b : Bool) → ltb (position_or_len p text) (length text) ≡ b
        → slice_split p text ≡ take at text ∷ slice_split p (drop (at + 1) text)
    by_test true t =
        let k : Some (position_or_len p text) ≡ Some at = rw t at e in
        let same : position_or_len p text ≡ at = cc in
        rw (← same)
        (slice_split_first p text 0 (ltb-true (position_or_len p text) (length text) t))
    by_test false t = let k : None ≡ Some at = rw t at e in cc

-- A text has at least one part.
pub some_part : (p : ℕ → Bool) (text : List ℕ)
    → (first : List ℕ) × (more : List (List ℕ)) × (slice_split p text ≡ first ∷ more)
some_part p [] = ([], [], refl)
some_part p (x ∷ xs) = by_test (p x) refl (some_part p xs)
  where
    by_test : (b : Bool) → p x ≡ b
        → (first : List ℕ) × (more : List (List ℕ)) × (slice_split p xs ≡ first ∷ more)
        → (first : List ℕ) × (more : List (List ℕ)) × (slice_split p (x ∷ xs) ≡ first ∷ more)
    by_test true e after = ([], slice_split p xs, rw e refl)
    by_test false e after = (x ∷ after.0, after.1, rw (e, after.2) refl)

-- A part with more behind it is not the only one.
pub not_one : (p : ℕ → Bool) (word rest : List ℕ) → one_of (word ∷ slice_split p rest) ≡ None
not_one p word rest = let some = some_part p rest in rw some.2 refl

-- The first place among what elements are mapped to.
pub position_map : {X Y : Type 0} (p : Y → Bool) (f : X → Y) (xs : List X)
    → position_or_len p (map f xs) ≡ position_or_len (λ x. p (f x)) xs
position_map p f [] = refl
position_map p f (x ∷ xs) = by_test (p (f x)) refl (position_map p f xs)
  where
    by_test : (b : Bool) → p (f x) ≡ b
        → position_or_len p (map f xs) ≡ position_or_len (λ x. p (f x)) xs
        → position_or_len p (map f (x ∷ xs)) ≡ position_or_len (λ x. p (f x)) (x ∷ xs)
    by_test true e after = rw e refl
    by_test false e after = rw (e, after) refl

-- A text has at most one part more than octets.
pub few_parts : (octet : ℕ) (text : List ℕ) → length (parts octet text) ≤ length text + 1
few_parts octet text =
    omega (
      arith,
      length-slice_split (λ other. other == octet) text,
      count_by-le-length (λ (other : ℕ). other == octet) text,
    )

-- What follows has a part more than nothing.
pub next_part : (octet : ℕ) (line : List ℕ) (rest : List ℕ) (after : Option (Bor (List ℕ)))
    → parts octet rest ≡ line ∷ parts_after octet after
    → length (parts octet rest) ≡ length (parts_after octet after) + 1
next_part octet line rest after e =
    rw e (sym (add-one (length (parts_after octet after))))
