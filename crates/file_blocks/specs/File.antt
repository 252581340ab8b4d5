-- What is read and written of a file at once (docs/FORMATS.md, Blocks on the device).
use Rattle.std.specs.Prelude.{◌≡◌, ◌+◌, ℕ, List, take, drop}

-- so many octets at a place, fewer where the octets end before
abbrev pub octets_in : List ℕ → (place size : ℕ) → List ℕ
octets_in octets place size = take size (drop place octets)

-- only so many octets at a place are others than before
pub record ChangesOnlyIn (place size : ℕ) (old new : List ℕ) : Type 0 where
  pub before : take place new ≡ take place old
  pub behind : drop (place + size) new ≡ drop (place + size) old
