-- A first start that was cut short before it had formatted all its buffers (docs/PROTOCOL.md,
-- Crashes: what `serve` does).
use Rattle.std.specs.Prelude.{◌≡◌, ◌⊎◌, ◌<◌, ℕ, All, List, Some, length, slice_get}
use Rattle.block_shelf.specs.Each.{AreEach}
use Rattle.block_shelf.specs.Starting.{buffer_over}
use Rattle.cyc_block.specs.Store.{block_at}
use Rattle.cyc_block.specs.declared.store.BlockStore.{Ghosts}
use Rattle.cyc_buffer.specs.Reads.{StaysHeld}
use Rattle.cyc_buffer.specs.Stopped.{Says}
use Rattle.news_terms.specs.HeadBlocks.{HeadBlock, Open, head_image}

-- each octet of a block is 0
abbrev pub IsZero : List ℕ → Type 0
IsZero block = All (λ octet. octet ≡ 0) block

-- the buffer on a store has no head: head block 0 has zeros alone
abbrev pub IsHeadless : {S : Type 0} → Ghosts S → S → Type 0
IsHeadless g store = IsZero (block_at (g.heads store) 0)

-- head block 0 of a store is that of the buffer of this number, which is open and was never stopped
abbrev pub IsFirstHead : {S : Type 0} → Ghosts S → (number : ℕ) → S → Type 0
IsFirstHead g number store =
    (b : HeadBlock) × Says (g.heads store) (buffer_over g number store) b × (b.state ≡ Open)
    × (b.stop ≡ 0)

-- the buffer of this number has no head, or that
abbrev pub HasNoneOrFirst : {S : Type 0} → Ghosts S → (number : ℕ) → S → Type 0
HasNoneOrFirst g number store = IsHeadless g store ⊎ IsFirstHead g number store

-- no article is marked in the bitmap on a store: each head block but head block 0 has zeros alone
abbrev pub IsUnmarked : {S : Type 0} → Ghosts S → S → Type 0
IsUnmarked g store =
    (k : ℕ) → 0 < k → k < length (g.heads store) → IsZero (block_at (g.heads store) k)

-- Nothing was ever kept in the buffer of this number, nor anything else at its place: each of its
-- blocks has zeros alone, and so has each head block but head block 0; it has no head, or one that
-- is open and was never stopped.
pub record IsBare {S : Type 0} (g : Ghosts S) (number : ℕ) (store : S) : Type 0 where
  pub blocks : All IsZero (g.blocks store)
  pub marks : IsUnmarked g store
  pub head : HasNoneOrFirst g number store

-- the buffer on one of these stores has no head, if it is honest
abbrev pub IsHeadMissing : {S : Type 0} → Ghosts S → (stores : List S) → Type 0
IsHeadMissing {S} g stores =
    (b : ℕ) × (store : S) × (slice_get stores b ≡ Some store)
    × (g.honest store → IsHeadless g store)

-- A first start over these stores was cut short, as far as they are honest: nothing was ever kept
-- on any of them, and one of them has no head yet.
pub record IsCutShort {S : Type 0} (g : Ghosts S) (stores : List S) : Type 0 where
  pub bare : (b : ℕ) (store : S) → slice_get stores b ≡ Some store → g.honest store
      → IsBare g b store
  pub missing : IsHeadMissing g stores

-- the head of a buffer of so many blocks in which nothing was begun yet
abbrev pub first_head : (number blocks : ℕ) → HeadBlock
first_head number blocks = record {
  state = Open;
  number = number;
  blocks = blocks;
  first_cycle = 0;
  cycle = 0;
  head = 0;
  stop = 0;
  begun = 0;
  stored = 0;
}

-- A head that isn't there is written so, and another one is left; no block is written.
pub record CompletesHead {S : Type 0} (g : Ghosts S) (number : ℕ) (old new : S) : Type 0 where
  pub honest : g.honest old → g.honest new
  pub blocks : g.honest old → g.blocks new ≡ g.blocks old
  pub written : g.honest old → IsHeadless g old
      → block_at (g.heads new) 0 ≡ head_image (first_head number (length (g.blocks old)))
  pub left : g.honest old → ¬ IsHeadless g old → g.heads new ≡ g.heads old
  pub count : length (g.blocks new) ≡ length (g.blocks old)

-- Stores are left as they are; or a first start over them was cut short, and each head that isn't
-- there is written.
abbrev pub AreCompleted : {S : Type 0} → Ghosts S → (old new : List S) → Type 0
AreCompleted g old new =
    AreEach (λ (b : ℕ). StaysHeld g) old new
    ⊎ (IsCutShort g old × AreEach (CompletesHead g) old new)
