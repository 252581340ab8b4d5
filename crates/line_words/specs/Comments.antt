-- Lines that say nothing.
use Rattle.std.specs.Prelude.{ℕ, ◌==◌, Bool, true, List, [], ◌∷◌}
use Rattle.std.specs.Str.{byte}

-- an empty line or a comment says nothing (docs/FORMATS.md, Configuration and Drill scripts)
abbrev pub is_skipped : List ℕ → Bool
is_skipped [] = true
is_skipped (first ∷ rest) = first == byte "#"
