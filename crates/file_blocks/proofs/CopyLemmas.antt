-- Runs that are copies of blocks in a file.
use Rattle.std.proofs.Common.{◌≡◌, ◌∙◌, ◌+◌, ◌*◌, ◌<◌, ◌≤◌, ℕ, List, [], get_or, sym, ap, subst}
use Rattle.std.proofs.Common.{arith, Result, Ok, Err, OnErr, OnOk}
use Rattle.cyc_block.specs.declared.TheConstants.{BLOCK_OCTETS}
use Rattle.file_blocks.specs.Blocks.{blocks_of}
use Rattle.file_blocks.specs.File.{octets_in, ChangesOnlyIn}
use Rattle.file_blocks.specs.Run.{blocks_in}
use Rattle.file_blocks.specs.Store.{IsCopy}
use Rattle.file_blocks.specs.declared.run.Run.{Run}
use Rattle.file_blocks.proofs.SeenLemmas.{run_read}
use Rattle.file_blocks.proofs.StoreLemmas.{IsRun, copy_stays}

-- what is left of a copy where it gives way to a run that is written
pub copy_left : (old new : Run) (n first count place size : ℕ) (before after : List ℕ)
    → IsRun n first count place size → ChangesOnlyIn place size before after
    → (0 < new.count → new ≡ old)
    → (0 < new.count → old.first < first + count → first < old.first + old.count → ⊥)
    → IsCopy old (blocks_of n before) → IsCopy new (blocks_of n after)
copy_left old new n first count place size before after is c stays apart was j among =
    let some : 0 < new.count = omega (arith, among) in
    let same : new ≡ old = stays some in
    subst (λ (run : Run). get_or (blocks_in run) j []
    ≡ get_or (blocks_of n after) (run.first + j) [])
    (sym same)
    (copy_stays n first count place size before after old.first old.count (blocks_in old) is c
    (apart some) was j (subst (λ (run : Run). j < run.count) same among))

-- what was read at once is a copy, and where the read failed there is none
pub read_copy : {A E : Type 0} (result : Result A E) (run : Run) (n first count : ℕ)
    (held : List ℕ) → first + count ≤ n → OnErr result (run.count ≡ 0)
    → OnOk result (run.first ≡ first) → OnOk result (run.count ≡ count)
    → OnOk result (blocks_in run
    ≡ blocks_of count (octets_in held (first * BLOCK_OCTETS) (count * BLOCK_OCTETS)))
    → IsCopy run (blocks_of n held)
read_copy (Ok x) run n first count held h none is_first is_count is j among =
    run_read n first count held (blocks_in run) h is j (omega (arith, is_count, among))
    ∙ ap (λ (p : ℕ). get_or (blocks_of n held) (p + j) []) (sym is_first)
read_copy (Err e) run n first count held h none is_first is_count is j among =
    absurd (omega (arith, none, among))
