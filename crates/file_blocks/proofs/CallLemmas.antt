-- What a store of runs keeps over its calls.
use Rattle.std.proofs.Common.{◌≡◌, ◌∙◌, ◌+◌, ◌<◌, ◌≤◌, ℕ, List, length, ap, sym}
use Rattle.std.proofs.Common.{subst, Result, Ok, Err, OnErr, OnOk}
use Rattle.std.proofs.lemmas.Result.{on_err_weaker, on_ok_weaker}
use Rattle.cyc_block.specs.declared.TheConstants.{BLOCK_OCTETS}
use Rattle.news_terms.specs.HeadBlocks.{head_blocks}
use Rattle.file_blocks.specs.Blocks.{blocks_of, heads_of, ChangesOnlyAt}
use Rattle.file_blocks.proofs.CutLemmas.{length-blocks_of}
use Rattle.file_blocks.specs.File.{ChangesOnlyIn}
use Rattle.file_blocks.specs.Store.{blocks_seen, heads_seen, AsksFile, IsCopy, IsHonest}
use Rattle.file_blocks.specs.declared.file.RunFile.{Ghosts}
use Rattle.file_blocks.specs.declared.run.Run.{Run}
use Rattle.file_blocks.specs.declared.store.FileBlocks.{FileBlocks}
use Rattle.file_blocks.proofs.SeenLemmas.{length-seen}

-- as many blocks are seen as are counted
pub length-blocks_seen : {F : Type 0} (g : Ghosts F) (store : FileBlocks F)
    → length (blocks_seen g store) ≡ store.count
length-blocks_seen g store =
    length-seen store.count store.gathered.first store.gathered.count (g.held store.file)
    store.gathered.octets.items store.gathered_within

-- as many are seen as before where as many are counted
pub same_seen : {F : Type 0} (g : Ghosts F) (old new : FileBlocks F) → new.count ≡ old.count
    → length (blocks_seen g new) ≡ length (blocks_seen g old)
same_seen g old new same =
    length-blocks_seen g new ∙ same ∙ sym (length-blocks_seen g old)

-- a number below that of the blocks that are seen is below theirs
pub is_within : {F : Type 0} (g : Ghosts F) (store : FileBlocks F) (n k : ℕ) → n ≡ store.count
    → k < length (blocks_seen g store) → k < n
is_within g store n k same h =
    subst (λ (m : ℕ). k < m) (length-blocks_seen g store ∙ sym same) h

-- a store that has the same file, and the same read ahead, is as honest
pub honest_as : {F : Type 0} (g : Ghosts F) (old new : FileBlocks F) → new.file ≡ old.file
    → new.count ≡ old.count → new.ahead ≡ old.ahead → IsHonest g old → IsHonest g new
honest_as {F} g old new file count ahead honest = record {
  file = subst (λ (f : F). g.honest f) (sym file) honest.file;
  ahead =
      subst (λ (f : F). IsCopy new.ahead (blocks_of new.count (g.held f))) (sym file)
      (subst (λ (n : ℕ). IsCopy new.ahead (blocks_of n (g.held old.file))) (sym count)
      (subst (λ (run : Run). IsCopy run (blocks_of old.count (g.held old.file))) (sym ahead)
      honest.ahead));
}

-- a change of as many octets as a block has is one at its place
pub block_change : (place size : ℕ) (old new : List ℕ) → size ≡ BLOCK_OCTETS
    → ChangesOnlyIn place size old new → ChangesOnlyAt place old new
block_change place size old new long c = subst (λ (s : ℕ). ChangesOnlyIn place s old new) long c

-- a number below that of the head blocks is below theirs, cut off any octets
pub head_within : {F : Type 0} (g : Ghosts F) (store : FileBlocks F) (n k : ℕ) (octets : List ℕ)
    → n ≡ store.count → k < head_blocks (length (blocks_seen g store))
    → k < head_blocks (length (blocks_of n octets))
head_within g store n k octets same h =
    subst (λ (m : ℕ). k < head_blocks m)
    (length-blocks_seen g store ∙ sym same ∙ sym (length-blocks_of n octets)) h

-- a store that has the same file has the same head blocks
pub heads_as : {F : Type 0} (g : Ghosts F) (old new : FileBlocks F) → new.file ≡ old.file
    → new.count ≡ old.count → heads_seen g new ≡ heads_seen g old
heads_as {F} g old new file count =
    ap (λ (n : ℕ). heads_of n (g.held new.file)) count
    ∙ ap (λ (f : F). heads_of old.count (g.held f)) file

-- what was asked of a file behind a step that asked it for nothing
pub asks_behind : {F A E : Type 0} (g : Ghosts F) (most : ℕ) (old mid new : FileBlocks F)
    (result : Result A E) → mid.file ≡ old.file → AsksFile g most mid new result
    → AsksFile g most old new result
asks_behind {F} g most old mid new result same asks = record {
  calls = subst (λ (f : F). g.calls new.file ≤ g.calls f + most) same asks.calls;
  failed = on_err_weaker result (λ is. is ∙ ap (λ (f : F). g.failures f + 1) same) asks.failed;
  no_failure = on_ok_weaker result (λ is. is ∙ ap (λ (f : F). g.failures f) same) asks.no_failure;
}

-- what is so anyway is so where a call answered Ok
pub any_ok : {T E P : Type 0} (result : Result T E) → P → OnOk result P
any_ok (Ok x) p = p
any_ok (Err e) p = tt

-- what is so anyway is so where a call failed
pub any_err : {T E P : Type 0} (result : Result T E) → P → OnErr result P
any_err (Ok x) p = tt
any_err (Err e) p = p
