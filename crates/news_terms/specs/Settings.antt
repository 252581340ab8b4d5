-- What buffers and groups are as they may be configured (docs/FORMATS.md, Configuration;
-- docs/PROTOCOL.md, Limits).
use Rattle.std.specs.Prelude.{◌≡◌, ℕ, ◌≤◌, ◌<◌, ◌^◌, List, length, All, slice_get, Some}
use Rattle.news_terms.specs.Places.{Buffer, Group}

-- this is buffer i of group g
pub record IsBufferAt (groups : List Group) (g i : ℕ) (buffer : Buffer) : Type 0 where
  pub group : Group
  pub is_group : slice_get groups g ≡ Some group
  pub is_buffer : slice_get group.buffers i ≡ Some buffer

-- a buffer's number is one that a token has room for, and it has 1 to 2^22 blocks
pub record IsSoundBuffer (buffer : Buffer) : Type 0 where
  pub number : buffer.number < 2 ^ 8
  pub some : 1 ≤ buffer.blocks
  pub most : buffer.blocks ≤ 2 ^ 22

-- all buffers, and the groups, are as they may be configured
pub record AreSound (all : List Buffer) (groups : List Group) : Type 0 where
  -- each buffer is sound
  pub buffers : All IsSoundBuffer all
  -- two buffers with one number are the same
  pub apart : (i j : ℕ) (a b : Buffer) → slice_get all i ≡ Some a
      → slice_get all j ≡ Some b → a.number ≡ b.number → i ≡ j
  -- a group has a buffer, each one is among the buffers, and none is twice in all groups
  pub filled : All (λ group. 1 ≤ length group.buffers) groups
  pub named : (g i : ℕ) (buffer : Buffer) → IsBufferAt groups g i buffer
      → (k : ℕ) × (slice_get all k ≡ Some buffer)
  pub once : (g h i j : ℕ) (a b : Buffer) → IsBufferAt groups g i a → IsBufferAt groups h j b
      → a.number ≡ b.number → (g ≡ h) × (i ≡ j)
