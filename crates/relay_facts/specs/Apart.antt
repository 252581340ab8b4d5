-- Groups that have none of a buffer's number (docs/PROTOCOL.md, Groups and writers).
use Rattle.std.specs.Prelude.{◌≡◌, ℕ, slice_get, Some}
use Rattle.news_terms.specs.Places.{Buffer, Group}

-- no buffer of the group has this number
pub record HasNone (group : Group) (number : ℕ) : Type 0 where
  pub apart : (i : ℕ) (one : Buffer) → slice_get group.buffers i ≡ Some one
      → one.number ≡ number → ⊥
