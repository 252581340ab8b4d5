-- What a store of runs holds after a call of its file.
use Rattle.std.proofs.Common.{◌≡◌, ◌∙◌, ◌+◌, ◌-◌, ◌*◌, ◌<◌, ◌≤◌, ℕ, List, []}
use Rattle.std.proofs.Common.{length, drop, get_or, sym, ap, subst, arith}
use Rattle.std.proofs.lemmas.List.{drop-drop}
use Rattle.cyc_block.specs.declared.TheConstants.{BLOCK_OCTETS}
use Rattle.news_terms.specs.HeadBlocks.{head_blocks}
use Rattle.file_blocks.specs.Blocks.{blocks_of, heads_of}
use Rattle.file_blocks.proofs.CutLemmas.{length-blocks_of, same_count}
use Rattle.file_blocks.specs.File.{octets_in, ChangesOnlyIn}
use Rattle.file_blocks.specs.Overlay.{overlaid}
use Rattle.file_blocks.proofs.OverlayLemmas.{ChangesOnlyRun, Before, Within, Behind, where_is}
use Rattle.file_blocks.proofs.OverlayLemmas.{overlaid_same, overlaid_written}
use Rattle.file_blocks.proofs.PlaceLemmas.{run_changed, run_there}

-- a run at a place of a file: so many blocks of the first n of the file, from this one on
pub record IsRun (n first count place size : ℕ) : Type 0 where
  pub within : first + count ≤ n
  pub begins : place ≡ first * BLOCK_OCTETS
  pub long : size ≡ count * BLOCK_OCTETS

-- a change of the octets of a run, by its blocks
pub run_change : (n first count place size : ℕ) (old new : List ℕ)
    → IsRun n first count place size → ChangesOnlyIn place size old new
    → ChangesOnlyRun first count (blocks_of n old) (blocks_of n new)
run_change n first count place size old new is c =
    run_changed n first count old new is.within
    (subst (λ p. ChangesOnlyIn p (count * BLOCK_OCTETS) old new) is.begins
    (subst (λ s. ChangesOnlyIn place s old new) is.long c))

-- a run in memory fits among the blocks of its file
run_fits : (n first count : ℕ) (room old : List ℕ) → first + count ≤ n
    → first + length (blocks_of count room) ≤ length (blocks_of n old)
run_fits n first count room old h =
    omega (arith, length-blocks_of count room, length-blocks_of n old)

-- where a run was written, the blocks in the file are what was seen before
pub run_written : (n first count place size : ℕ) (old new octets room : List ℕ)
    → IsRun n first count place size → blocks_of count octets ≡ blocks_of count room
    → ChangesOnlyIn place size old new → octets_in new place size ≡ octets
    → blocks_of n new ≡ overlaid first (blocks_of count room) (blocks_of n old)
run_written n first count place size old new octets room is same c written =
    let run : List (List ℕ) = blocks_of count room in
    let long : length run ≡ count = length-blocks_of count room in
    let there : octets_in new (first * BLOCK_OCTETS) (count * BLOCK_OCTETS) ≡ octets =
    sym (ap (λ p. octets_in new p (count * BLOCK_OCTETS)) is.begins)
    ∙ sym (ap (octets_in new place) is.long)
    ∙ written in
    overlaid_written first run (blocks_of n old) (blocks_of n new) (same_count n old new)
    (run_fits n first count room old is.within)
    (subst (λ m. ChangesOnlyRun first m (blocks_of n old) (blocks_of n new)) (sym long)
    (run_change n first count place size old new is c))
    (λ i among. run_there n first count i new octets is.within (omega arith) there
    ∙ ap (λ (blocks : List (List ℕ)). get_or blocks i []) same)

-- where a write of a run failed, what was seen before is seen
pub run_kept : (n first count place size : ℕ) (old new room : List ℕ)
    → IsRun n first count place size → ChangesOnlyIn place size old new
    → overlaid first (blocks_of count room) (blocks_of n new)
    ≡ overlaid first (blocks_of count room) (blocks_of n old)
run_kept n first count place size old new room is c =
    overlaid_same first (blocks_of count room) (blocks_of n old) (blocks_of n new)
    (same_count n old new) (run_fits n first count room old is.within)
    (subst (λ m. ChangesOnlyRun first m (blocks_of n old) (blocks_of n new))
    (sym (length-blocks_of count room)) (run_change n first count place size old new is c))

-- the head blocks are behind all runs
pub run_heads : (n first count place size : ℕ) (old new : List ℕ)
    → IsRun n first count place size → ChangesOnlyIn place size old new
    → heads_of n new ≡ heads_of n old
run_heads n first count place size old new is c =
    let end : ℕ = n * BLOCK_OCTETS in
    let run_end : ℕ = place + size in
    let e : run_end + (end - run_end) ≡ end = omega (arith, is.begins, is.long, is.within) in
    let rest : drop end new ≡ drop end old =
    sym (ap (λ p. drop p new) e)
    ∙ sym (drop-drop (end - run_end) run_end new)
    ∙ ap (λ (octets : List ℕ). drop (end - run_end) octets) c.behind
    ∙ drop-drop (end - run_end) run_end old
    ∙ ap (λ p. drop p old) e in
    ap (blocks_of (head_blocks n)) rest

-- a copy of blocks that a written run doesn't meet is one still
pub copy_stays : (n first count place size : ℕ) (old new : List ℕ) (from many : ℕ)
    (copy : List (List ℕ)) → IsRun n first count place size → ChangesOnlyIn place size old new
    → (from < first + count → first < from + many → ⊥)
    → ((j : ℕ) → j < many → get_or copy j [] ≡ get_or (blocks_of n old) (from + j) [])
    → (j : ℕ) → j < many → get_or copy j [] ≡ get_or (blocks_of n new) (from + j) []
copy_stays n first count place size old new from many copy is c apart was j among =
    let changes = run_change n first count place size old new is c in
    was j among
    ∙ sym (elim (where_is first count (from + j)) [
      | Before before ↦ changes.before (from + j) before
      | Within i within at ↦ absurd (apart (omega arith) (omega arith))
      | Behind behind ↦ changes.behind (from + j) behind
    ])
