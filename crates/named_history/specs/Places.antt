-- Where a name is among names, and what stands there (docs/FORMATS.md, Names file).
use Rattle.std.specs.Prelude.{ℕ, suc, List, [], ◌∷◌, bytes_eq, if◌then◌else◌, Option, None, Some}
use Rattle.std.specs.Prelude.{option_map}
use Rattle.std.specs.List.{slice_get}
use Rattle.std.specs.Option.{option_and_then, option_or}

-- the first place where the name is, counted from 0
abbrev pub place_of : (name : List ℕ) → (names : List (List ℕ)) → Option ℕ
place_of name [] = None
place_of name (first ∷ names) =
    if bytes_eq name first then Some 0 else option_map suc (place_of name names)

-- what stands at the first place where the name is among the names
abbrev pub under : {X : Type 0} → (name : List ℕ) → (names : List (List ℕ)) → List X → Option X
under name names all = option_and_then (slice_get all) (place_of name names)

-- the place, in the list, of the first of these names that is in it
abbrev pub first_place : (names list : List (List ℕ)) → Option ℕ
first_place [] list = None
first_place (name ∷ names) list = option_or (place_of name list) (first_place names list)
