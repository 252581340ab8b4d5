-- Where a group goes on, as it is found in two parts.
use Rattle.std.proofs.Common.{◌≡◌, inl, inr, ℕ, ◌≤◌, zero, suc, min, List, [], ◌∷◌, ◌++◌}
use Rattle.std.proofs.Common.{length, take, drop, map, zip, slice_get, Option, Some, None}
use Rattle.std.proofs.Common.{unwrap_or}
use Rattle.std.proofs.Common.{option_and_then, drop_of_length-le, refl, ap, ap₂, ◌∙◌, sym, arith}
use Rattle.std.proofs.lemmas.Bool.{cases_lt}
use Rattle.std.proofs.lemmas.List.{take_all}
use Rattle.std.proofs.lemmas.Option.{none-some, same_Some}
use Rattle.std.specs.Option.{option_or}
use Rattle.named_history.specs.Naming.{name_of, position_of, turn_by, turn_from}
use Rattle.named_history.specs.Places.{first_place, place_of}
use Rattle.relay_names.specs.Names.{GroupNames}

-- One place before those that two lists give.
one_before : {X : Type 0} (one rest first second : Option X) → rest ≡ option_or first second
    → option_or one rest ≡ option_or (option_or one first) second
one_before None rest first second is = is
one_before (Some x) rest first second is = refl

-- The first of two lists' names that is there is that of the one list, or else of the other.
pub first_joined : (front back list : List (List ℕ))
    → first_place (front ++ back) list
    ≡ option_or (first_place front list) (first_place back list)
first_joined [] back list = refl
first_joined (name ∷ front) back list =
    one_before (place_of name list) (first_place (front ++ back) list) (first_place front list)
    (first_place back list) (first_joined front back list)

-- A list is cut at its end, where the place is past it.
cut_there : (known : List (List ℕ)) (position turn : ℕ) → turn ≡ min (length known) position
    → (take turn known ≡ take position known) × (drop turn known ≡ drop position known)
cut_there known position turn is =
    elim (cases_lt position (length known)) [
      | inl less ↦
          let same : turn ≡ position = omega (arith, is, less) in
          (ap (λ n. take n known) same, ap (λ n. drop n known) same)
      | inr past ↦
          let whole : turn ≡ length known = omega (arith, is, past) in
          let end : length known ≤ turn = omega (arith, whole) in (
            take_all turn known end ∙ sym (take_all position known past),
            drop_of_length-le known end ∙ sym (drop_of_length-le known past),
          )
    ]

-- Where the buffers before its turn stand apart from those from there on, it is looked for among
-- these first.
pub turn_parts : (known : List (List ℕ)) (position turn : ℕ) (own before from : List (List ℕ))
    → turn ≡ min (length known) position → before ≡ take turn known → from ≡ drop turn known
    → turn_by known position own
    ≡ unwrap_or (option_or (first_place from own) (first_place before own)) 0
turn_parts known position turn own before from is front back =
    let cut = cut_there known position turn is in
    ap (λ (found : Option ℕ). unwrap_or found 0)
    (first_joined (drop position known) (take position known) own
    ∙ ap₂ (λ (xs ys : List (List ℕ)). option_or (first_place xs own) (first_place ys own))
    (sym (back ∙ cut.1)) (sym (front ∙ cut.0)))

-- Past the end of the second list nothing stands beside another.
zip_past : {X Y : Type 0} (xs : List X) (ys : List Y) (i : ℕ) → length ys ≤ i
    → slice_get (zip xs ys) i ≡ None
zip_past [] ys i past = refl
zip_past (x ∷ xs) [] i past = refl
zip_past (x ∷ xs) (y ∷ ys) zero past =
    let within : ⊥ = omega (arith, past) in
    absurd within
zip_past (x ∷ xs) (y ∷ ys) (suc i) past = zip_past xs ys i (omega (arith, past))

-- What stands at a place of two lists side by side.
zip_at : {X Y : Type 0} (xs : List X) (ys : List Y) (i : ℕ) (x : X) (y : Y)
    → slice_get xs i ≡ Some x → slice_get ys i ≡ Some y → slice_get (zip xs ys) i ≡ Some (x, y)
zip_at [] ys i x y left right = absurd (none-some x left)
zip_at (a ∷ xs) [] i x y left right = absurd (none-some y right)
zip_at {X} {Y} (a ∷ xs) (b ∷ ys) zero x y left right =
    ap₂ (λ (c : X) (d : Y). Some (c, d)) (same_Some a x left) (same_Some b y right)
zip_at (a ∷ xs) (b ∷ ys) (suc i) x y left right = zip_at xs ys i x y left right

-- Where no position of a group is kept, it begins with its first buffer.
pub position_past : (known : List GroupNames) (kept : List ℕ) (own : GroupNames) (place : ℕ)
    → place_of own.name (map name_of known) ≡ Some place
    → length kept ≤ place → 0 ≡ position_of known kept own
position_past known kept own place is past =
    sym (ap (λ (found : Option ℕ).
    turn_from own.buffers (option_and_then (slice_get (zip known kept)) found)) is
    ∙ ap (turn_from own.buffers) (zip_past known kept place past))

-- Else it goes on by the buffers and the position that it had.
pub position_there : (known : List GroupNames) (kept : List ℕ) (own old : GroupNames)
    (place position : ℕ) → place_of own.name (map name_of known) ≡ Some place
    → slice_get known place ≡ Some old → slice_get kept place ≡ Some position
    → turn_by old.buffers position own.buffers ≡ position_of known kept own
position_there known kept own old place position is was turn =
    sym (ap (λ (found : Option ℕ).
    turn_from own.buffers (option_and_then (slice_get (zip known kept)) found)) is
    ∙ ap (turn_from own.buffers) (zip_at known kept place old position was turn))
