-- What a store of runs holds.
use Rattle.std.specs.Prelude.{◌≡◌, ◌≢◌, ◌⊎◌, ◌+◌, ◌-◌, ◌<◌, ◌≤◌, ℕ, Bool, List, slice_set, IsTrue}
use Rattle.std.specs.Prelude.{Result, OnErr, OnOk}
use Rattle.cyc_block.specs.Store.{block_at, ChangesOnly}
use Rattle.file_blocks.specs.Blocks.{blocks_of, heads_of}
use Rattle.file_blocks.specs.declared.run.Run.{Run}
use Rattle.file_blocks.specs.declared.run.TheConstants.{RUN_BLOCKS}
use Rattle.file_blocks.specs.declared.file.RunFile.{Ghosts}
use Rattle.file_blocks.specs.declared.store.FileBlocks.{FileBlocks}
use Rattle.file_blocks.specs.Overlay.{overlaid}
use Rattle.file_blocks.specs.Run.{blocks_in, Holds}

-- the file
abbrev pub file_of : {F : Type 0} → FileBlocks F → F
file_of store = store.file

-- how many blocks it has
abbrev pub count_of : {F : Type 0} → FileBlocks F → ℕ
count_of store = store.count

-- how often the store was asked
abbrev pub asked_of : {F : Type 0} → FileBlocks F → ℕ
asked_of store = store.asked

-- whether no buffer was found in the file before it was one of blocks
abbrev pub was_blank : {F : Type 0} → FileBlocks F → Bool
was_blank store = store.blank

-- the blocks that were taken and aren't written yet
abbrev pub gathered_of : {F : Type 0} → FileBlocks F → List (List ℕ)
gathered_of store = blocks_in store.gathered

-- how many blocks are kept that were read at once
abbrev pub ahead_count : {F : Type 0} → FileBlocks F → ℕ
ahead_count store = store.ahead.count

-- the blocks in the file
abbrev pub blocks_there : {F : Type 0} → Ghosts F → FileBlocks F → List (List ℕ)
blocks_there g store = blocks_of store.count (g.held store.file)

-- what the blocks hold: those in the file, with what is gathered in place of theirs
abbrev pub blocks_seen : {F : Type 0} → Ghosts F → FileBlocks F → List (List ℕ)
blocks_seen g store =
    overlaid store.gathered.first (gathered_of store) (blocks_there g store)

-- what the head blocks hold, which are never gathered
abbrev pub heads_seen : {F : Type 0} → Ghosts F → FileBlocks F → List (List ℕ)
heads_seen g store = heads_of store.count (g.held store.file)

-- the blocks of a run are those that stand at its place
abbrev pub IsCopy : Run → List (List ℕ) → Type 0
IsCopy run blocks =
    (j : ℕ) → j < run.count → block_at (blocks_in run) j ≡ block_at blocks (run.first + j)

-- the file is honest, and what was read ahead is as it is in the file
pub record IsHonest {F : Type 0} (g : Ghosts F) (store : FileBlocks F) : Type 0 where
  pub file : g.honest store.file
  pub ahead : IsCopy store.ahead (blocks_there g store)

-- what is gathered couldn't be written: it is set aside, and is kept in memory alone
abbrev pub IsSetAside : {F : Type 0} → FileBlocks F → Type 0
IsSetAside store = IsTrue store.set_aside

-- block k is in memory alone, and not in the file
abbrev pub IsInMemory : {F : Type 0} → FileBlocks F → (k : ℕ) → Type 0
IsInMemory store k = Holds store.gathered k

-- none of the blocks from this one on up to that one is in memory alone
abbrev pub AreWritten : {F : Type 0} → (first last : ℕ) → FileBlocks F → Type 0
AreWritten first last store = (j : ℕ) → first ≤ j → j ≤ last → ¬ IsInMemory store j

-- each of the blocks from this one on up to that one is in the file as it is seen
abbrev pub AreInFile : {F : Type 0} → Ghosts F → (first last : ℕ) → FileBlocks F → Type 0
AreInFile g first last store =
    (j : ℕ) → first ≤ j → j ≤ last
    → block_at (blocks_there g store) j ≡ block_at (blocks_seen g store) j

-- A write of block k, which has this index in its article, doesn't wait for what is set aside:
-- block k is the first of that, or none of the article's blocks up to it is in memory alone.
abbrev pub PassesBy : {F : Type 0} → (k index : ℕ) → FileBlocks F → Type 0
PassesBy k index store = (k ≡ store.gathered.first) ⊎ AreWritten (k - index) k store

-- What a write of block k leaves of blocks that were set aside: no others are gathered, and they
-- stay so but for block k, or all of them are written.
pub record KeepsAside {F : Type 0} (k : ℕ) (old new : FileBlocks F) : Type 0 where
  pub no_more : (j : ℕ) → IsInMemory new j → IsInMemory old j
  pub rest : IsSetAside new → (j : ℕ) → j ≢ k → IsInMemory old j → IsInMemory new j
  pub aside : (j : ℕ) → IsInMemory new j → IsSetAside new

-- what is set aside stays so, and nothing else is gathered
pub record StaysAside {F : Type 0} (old new : FileBlocks F) : Type 0 where
  pub run : new.gathered ≡ old.gathered
  pub aside : IsSetAside new

-- What a write of block k leaves of an honest store: block k holds these octets where it answers
-- Ok, no other block and no head block holds other octets than before, and it stays honest.
pub record WritesBlock {F A E : Type 0} (g : Ghosts F) (k : ℕ) (octets : List ℕ)
    (old new : FileBlocks F) (result : Result A E) : Type 0 where
  pub written : IsHonest g old
      → OnOk result (blocks_seen g new ≡ slice_set (blocks_seen g old) k octets)
  pub others : IsHonest g old → ChangesOnly k (blocks_seen g old) (blocks_seen g new)
  pub heads : IsHonest g old → heads_seen g new ≡ heads_seen g old
  pub honest : IsHonest g old → IsHonest g new
  pub count : new.count ≡ old.count

-- block k can be put behind what is gathered: it follows that, or nothing is gathered
pub record CanTake {F : Type 0} (store : FileBlocks F) (k : ℕ) : Type 0 where
  pub room : store.gathered.count < RUN_BLOCKS
  pub follows : 0 < store.gathered.count → k ≡ store.gathered.first + store.gathered.count

-- no block and no head block of an honest store holds other octets than before, and it stays honest
pub record KeepsBlocks {F : Type 0} (g : Ghosts F) (old new : FileBlocks F) : Type 0 where
  pub blocks : IsHonest g old → blocks_seen g new ≡ blocks_seen g old
  pub heads : IsHonest g old → heads_seen g new ≡ heads_seen g old
  pub honest : IsHonest g old → IsHonest g new
  pub count : new.count ≡ old.count

-- The file is called so often at most; one of the calls failed where an error is answered, and none
-- where not.
pub record AsksFile {F A E : Type 0} (g : Ghosts F) (most : ℕ) (old new : FileBlocks F)
    (result : Result A E) : Type 0 where
  pub calls : g.calls new.file ≤ g.calls old.file + most
  pub failed : OnErr result (g.failures new.file ≡ g.failures old.file + 1)
  pub no_failure : OnOk result (g.failures new.file ≡ g.failures old.file)
