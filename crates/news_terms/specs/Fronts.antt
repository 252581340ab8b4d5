-- How the fronts of a group's buffers move while articles are begun (docs/PROTOCOL.md, Store).
use Rattle.std.specs.Prelude.{◌≡◌, ℕ, ◌+◌, ◌≤◌, List, slice_get, Some}
use Rattle.news_terms.specs.Places.{Buffer, Group, Place, extents, front_after, on_line}

-- each buffer of the group has a number of its own
pub record HasOwnNumbers (group : Group) : Type 0 where
  pub own : (i j : ℕ) (a b : Buffer) → slice_get group.buffers i ≡ Some a
      → slice_get group.buffers j ≡ Some b → a.number ≡ b.number → i ≡ j

-- an article of this size fits each buffer of the group
pub record FitsGroup (group : Group) (size : ℕ) : Type 0 where
  pub room : (i : ℕ) (buffer : Buffer) → slice_get group.buffers i ≡ Some buffer
      → size ≤ buffer.blocks

-- the place is in one of the group's buffers
pub record IsAmongBuffers (group : Group) (place : Place) : Type 0 where
  pub index : ℕ
  pub there : slice_get group.buffers index ≡ Some place.buffer

-- an article at this place ends in its buffer
pub record EndsInBuffer (place : Place) (size : ℕ) : Type 0 where
  pub ends : place.first + size ≤ place.buffer.blocks

-- the place is at the front of its buffer or past it, after a group began these articles
pub record IsAtOrPastFront (group : Group) (begun : List ℕ) (place : Place) : Type 0 where
  pub past :
      front_after place.buffer (extents group begun)
      ≤ on_line place.buffer.blocks place.cycle place.first
