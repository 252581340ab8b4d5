-- The text that is told, while it is put together.
use Rattle.std.specs.Prelude.{◌≡◌, ◌++◌, ℕ, List, Option, IfSome, IsSomeAnd}

-- A text with more behind it. Where memory ran out there is none, and none comes later.
pub record Adds (old new : Option (List ℕ)) (more : List ℕ) : Type 0 where
  pub adds : IfSome new (λ text. IsSomeAnd old (λ before. text ≡ before ++ more))
