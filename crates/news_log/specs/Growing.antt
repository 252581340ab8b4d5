-- How a file grows.
use Rattle.std.specs.Prelude.{◌≡◌, ◌++◌, ℕ, List}

-- A front of these octets, perhaps none or all of them, was put behind what was there before.
pub record IsFrontBehind (before octets after : List ℕ) : Type 0 where
  pub front : List ℕ
  pub rest : List ℕ
  pub parts : octets ≡ front ++ rest
  pub behind : after ≡ before ++ front
