-- Blocks that others stand in place of.
use Rattle.std.specs.Prelude.{◌+◌, ℕ, List, ◌++◌, length, take, drop}

-- blocks with those of a run in place of theirs, from block `first` on
abbrev pub overlaid : (first : ℕ) → (run blocks : List (List ℕ)) → List (List ℕ)
overlaid first run blocks = take first blocks ++ (run ++ drop (first + length run) blocks)
