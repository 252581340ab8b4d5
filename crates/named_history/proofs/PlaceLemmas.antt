-- Names that are gone through, one after the other.
use Rattle.std.proofs.Common.{◌≡◌, ℕ, ◌+◌, ◌<◌, ◌≤◌, suc, List, length, drop, get_or}
use Rattle.std.proofs.Common.{Option, Some, None, false, true, refl, ap, ◌∙◌, arith}
use Rattle.std.proofs.lemmas.List.{at_drop_more, at_drop_all}
use Rattle.std.specs.Prelude.{bytes_eq, option_map}
use Rattle.named_history.specs.Places.{place_of}

-- the first place of the name among these, which are counted from this number on
abbrev pub place_from : (place : ℕ) → (name : List ℕ) → (names : List (List ℕ)) → Option ℕ
place_from place name names = option_map (λ k. place + k) (place_of name names)

-- counted from the next number, or each from one more
pub counted_on : (place : ℕ) (found : Option ℕ)
    → option_map (λ k. place + k) (option_map suc found) ≡ option_map (λ k. place + 1 + k) found
counted_on place None = refl
counted_on place (Some k) = ap Some (omega arith)

-- counted from none, places are as they are
pub counted_from_none : (found : Option ℕ) → option_map (λ k. 0 + k) found ≡ found
counted_from_none None = refl
counted_from_none (Some k) = ap Some (omega arith)

-- Where the next isn't it, the others are looked through from the next place on.
pub place_later : (name : List ℕ) (names : List (List ℕ)) (place : ℕ) (d : List ℕ)
    → place < length names → bytes_eq name (get_or names place d) ≡ false
    → place_from place name (drop place names)
    ≡ place_from (place + 1) name (drop (place + 1) names)
place_later name names place d less other =
    at_drop_more (place_from place name) names place d less
    ∙ rw other (counted_on place (place_of name (drop (place + 1) names)))

-- Where it is, its place is found.
pub place_found : (name : List ℕ) (names : List (List ℕ)) (place : ℕ) (d : List ℕ)
    → place < length names → bytes_eq name (get_or names place d) ≡ true
    → place_from place name (drop place names) ≡ Some place
place_found name names place d less same =
    at_drop_more (place_from place name) names place d less
    ∙ rw same (ap Some (omega arith))

-- Where none is left, it is nowhere.
pub place_nowhere : (name : List ℕ) (names : List (List ℕ)) (place : ℕ) → length names ≤ place
    → place_from place name (drop place names) ≡ None
place_nowhere name names place past = at_drop_all (place_from place name) names place past
