-- What the steps of a write leave of a store of runs.
use Rattle.std.specs.Prelude.{◌≡◌, ◌+◌, ◌-◌, ◌*◌, ◌≤◌, ℕ, List, [], Result, OnErr, OnOk}
use Rattle.news_terms.specs.BlockImage.{Block, IsBlock, block_image, chunk_size}
use Rattle.cyc_block.specs.Store.{ChangesOnly}
use Rattle.file_blocks.specs.declared.file.RunFile.{Ghosts}
use Rattle.file_blocks.specs.declared.store.FileBlocks.{FileBlocks}
use Rattle.file_blocks.specs.Store.{asked_of, gathered_of, blocks_seen, heads_seen, IsHonest}
use Rattle.file_blocks.specs.Store.{AsksFile, KeepsBlocks, IsInMemory, IsSetAside, AreWritten}
use Rattle.file_blocks.specs.Store.{CanTake, PassesBy, KeepsAside, StaysAside}

-- What is gathered was written, and nothing is gathered; after a failure it is as it was, and is
-- set aside.
pub record WritesRun {F A E : Type 0} (g : Ghosts F) (old new : FileBlocks F)
    (result : Result A E) : Type 0 where
  pub seen : KeepsBlocks g old new
  pub written : OnOk result (gathered_of new ≡ [])
  pub none : OnOk result (new.gathered.count ≡ 0)
  pub kept : OnErr result (new.gathered ≡ old.gathered)
  pub aside : OnErr result (IsSetAside new)
  pub asked : asked_of new ≡ asked_of old
  pub file : AsksFile g 1 old new result

-- There is room for block k behind what is gathered, which was written where the block doesn't
-- follow it.
pub record MakesRoom {F A E : Type 0} (g : Ghosts F) (k : ℕ) (old new : FileBlocks F)
    (result : Result A E) : Type 0 where
  pub seen : KeepsBlocks g old new
  pub room : OnOk result (CanTake new k)
  pub aside : OnErr result (IsSetAside new)
  pub asked : asked_of new ≡ asked_of old
  pub file : AsksFile g 1 old new result

-- What is gathered was written with the block that was taken last, of these octets, where that is
-- the last of its article; after a failure that block is no longer taken, and the others are set
-- aside.
pub record Settles {F A E : Type 0} (g : Ghosts F) (octets : List ℕ) (old new : FileBlocks F)
    (result : Result A E) : Type 0 where
  pub written : IsHonest g old → OnOk result (blocks_seen g new ≡ blocks_seen g old)
  pub others : IsHonest g old → (k : ℕ) → k + 1 ≡ old.gathered.first + old.gathered.count
      → ChangesOnly k (blocks_seen g old) (blocks_seen g new)
  pub heads : IsHonest g old → heads_seen g new ≡ heads_seen g old
  pub honest : IsHonest g old → IsHonest g new
  pub count : new.count ≡ old.count
  pub last : (b : Block) → IsBlock b → octets ≡ block_image b
      → b.article_length ≤ chunk_size * (b.index + 1) → OnOk result (gathered_of new ≡ [])
  pub aside : OnErr result ((j : ℕ) → IsInMemory new j → IsSetAside new)
  pub asked : asked_of new ≡ asked_of old
  pub file : AsksFile g 1 old new result

-- Block k, and as many before it as its index in its article says, are no longer in memory alone:
-- block k was dropped, where it was the first of what is set aside, and else all of that was
-- written, where one of these was among it.
pub record LetsGo {F A E : Type 0} (g : Ghosts F) (k index : ℕ) (old new : FileBlocks F)
    (result : Result A E) : Type 0 where
  pub others : IsHonest g old → ChangesOnly k (blocks_seen g old) (blocks_seen g new)
  pub heads : IsHonest g old → heads_seen g new ≡ heads_seen g old
  pub honest : IsHonest g old → IsHonest g new
  pub count : new.count ≡ old.count
  pub written : OnOk result (AreWritten (k - index) k new)
  pub aside : KeepsAside k old new
  pub asked : asked_of new ≡ asked_of old
  pub file : AsksFile g 1 old new result
  pub unasked : PassesBy k index old → new.file ≡ old.file
  pub passes : OnErr result (¬ PassesBy k index old)

-- What is gathered was written, but for what is set aside, for which nothing waits.
pub record ClearsWay {F A E : Type 0} (g : Ghosts F) (old new : FileBlocks F)
    (result : Result A E) : Type 0 where
  pub seen : KeepsBlocks g old new
  pub written : ¬ IsSetAside old → OnOk result (gathered_of new ≡ [])
  pub failed : OnErr result (IsSetAside new)
  pub rest : OnOk result ((j : ℕ) → IsInMemory new j → IsSetAside new)
  pub aside : IsSetAside old → StaysAside old new
  pub unasked : IsSetAside old → new.file ≡ old.file
  pub passes : OnErr result (¬ IsSetAside old)
  pub asked : asked_of new ≡ asked_of old
  pub file : AsksFile g 1 old new result
