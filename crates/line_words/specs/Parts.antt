-- How a text is cut into parts.
use Rattle.std.specs.Prelude.{ℕ, ◌==◌, List, [], ◌∷◌, Option, None, Some}
use Rattle.std.specs.List.{slice_split}
use Rattle.std.specs.Borrow.{Bor}

-- the parts of a text between octets of this value (docs/FORMATS.md, Configuration and Drill
-- scripts)
abbrev pub parts : ℕ → List ℕ → List (List ℕ)
parts octet text = slice_split (λ other. other == octet) text

-- the parts of what follows such an octet: none where nothing follows
abbrev pub parts_after : ℕ → Option (Bor (List ℕ)) → List (List ℕ)
parts_after octet None = []
parts_after octet (Some rest) = parts octet rest.now

-- the one part, where there is just one
abbrev pub one_of : List (List ℕ) → Option (List ℕ)
one_of [] = None
one_of (word ∷ []) = Some word
one_of (first ∷ second ∷ more) = None

-- the two parts, where there are just two
abbrev pub two_of : List (List ℕ) → Option (List ℕ × List ℕ)
two_of [] = None
two_of (word ∷ []) = None
two_of (first ∷ second ∷ []) = Some (first, second)
two_of (first ∷ second ∷ third ∷ more) = None

-- the three parts, where there are just three
abbrev pub three_of : List (List ℕ) → Option (List ℕ × List ℕ × List ℕ)
three_of [] = None
three_of (word ∷ []) = None
three_of (first ∷ second ∷ []) = None
three_of (first ∷ second ∷ third ∷ []) = Some (first, second, third)
three_of (first ∷ second ∷ third ∷ fourth ∷ more) = None
