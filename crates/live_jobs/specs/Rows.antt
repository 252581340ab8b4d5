-- Rows of seats.
use Rattle.std.specs.Prelude.{◌≡◌, ℕ, ◌+◌, List, Some, slice_get}

-- this holds of each element at its number, where the first has the number n
abbrev pub From : {X : Type 0} → (ℕ → X → Type 0) → (n : ℕ) → List X → Type 0
From {X} P n xs = (k : ℕ) (x : X) → slice_get xs k ≡ Some x → P (n + k) x
