-- What is seen of a store of runs: blocks that are gathered, and the others.
use Rattle.std.proofs.Common.{◌≡◌, ◌≢◌, ◌∙◌, ◌+◌, ◌-◌, ◌*◌, ◌<◌, ◌≤◌, ℕ, zero, suc, List, [], ◌∷◌}
use Rattle.std.proofs.Common.{◌++◌, length, take, drop, get_or, set, refl, sym, ap, arith}
use Rattle.cyc_block.specs.Store.{ChangesOnly}
use Rattle.cyc_block.specs.declared.TheConstants.{BLOCK_OCTETS}
use Rattle.file_blocks.specs.Blocks.{blocks_of, octets_at}
use Rattle.file_blocks.proofs.CutLemmas.{block_there, length-blocks_of}
use Rattle.file_blocks.specs.File.{octets_in}
use Rattle.file_blocks.specs.Overlay.{overlaid}
use Rattle.file_blocks.proofs.OverlayLemmas.{overlaid_before, overlaid_within, overlaid_behind}
use Rattle.file_blocks.proofs.OverlayLemmas.{overlaid_none, overlaid_more, overlaid_fewer}
use Rattle.file_blocks.proofs.OverlayLemmas.{length-overlaid, where_is, Before, Within, Behind}
use Rattle.file_blocks.proofs.PlaceLemmas.{block_behind}
use Rattle.file_blocks.proofs.RunLemmas.{no_blocks, fewer_blocks, one_more, cut_blocks}

-- where nothing is gathered the blocks in the file are seen
pub none_gathered : (first count : ℕ) (room : List ℕ) (blocks : List (List ℕ)) → count ≡ 0
    → overlaid first (blocks_of count room) blocks ≡ blocks
none_gathered first count room blocks none =
    overlaid_none first (blocks_of count room) blocks (no_blocks count room none)

-- where it begins doesn't matter while nothing is gathered
other_begin : (first other count : ℕ) (room : List ℕ) (blocks : List (List ℕ))
    → (0 < count → other ≡ first)
    → overlaid other (blocks_of count room) blocks ≡ overlaid first (blocks_of count room) blocks
other_begin first other zero room blocks same =
    none_gathered other 0 room blocks refl ∙ sym (none_gathered first 0 room blocks refl)
other_begin first other (suc count) room blocks same =
    ap (λ (f : ℕ). overlaid f (blocks_of (suc count) room) blocks) (same (omega arith))

-- as many blocks are seen as there are in the file
pub length-seen : (n first count : ℕ) (held room : List ℕ) → first + count ≤ n
    → length (overlaid first (blocks_of count room) (blocks_of n held)) ≡ n
length-seen n first count held room h =
    length-overlaid first (blocks_of count room) (blocks_of n held)
    (omega (arith, h, length-blocks_of count room, length-blocks_of n held))
    ∙ length-blocks_of n held

-- as many are seen as before, whatever is gathered
pub two_seen : (n m first count begin many : ℕ) (before after old new : List ℕ) → m ≡ n
    → first + count ≤ n → begin + many ≤ m
    → length (overlaid begin (blocks_of many new) (blocks_of m after))
    ≡ length (overlaid first (blocks_of count old) (blocks_of n before))
two_seen n m first count begin many before after old new same h k =
    length-seen m begin many after new k ∙ same ∙ sym (length-seen n first count before old h)

-- a block that was taken is the one that is seen
pub taken_seen : (n first other count k : ℕ) (held room : List ℕ) (more : List (List ℕ))
    (block : List ℕ) → k < n → k ≡ other + count → (0 < count → other ≡ first)
    → more ≡ blocks_of count room ++ block ∷ []
    → overlaid other more (blocks_of n held)
    ≡ set (overlaid first (blocks_of count room) (blocks_of n held)) k block
taken_seen n first other count k held room more block h at same is =
    let run : List (List ℕ) = blocks_of count room in
    let there : List (List ℕ) = blocks_of n held in
    let k_is : other + length run ≡ k = omega (arith, at, length-blocks_of count room) in
    ap (λ (r : List (List ℕ)). overlaid other r there) is
    ∙ overlaid_more other run there block
    (omega (arith, h, k_is, length-blocks_of n held))
    ∙ ap (λ p. set (overlaid other run there) p block) k_is
    ∙ ap (λ (seen : List (List ℕ)). set seen k block)
    (other_begin first other count room there same)

-- without the block that was taken last, what is seen is the same but for that
pub untaken_seen : (n first count left k : ℕ) (held room : List ℕ) (fewer seen : List (List ℕ))
    → first + count ≤ n → count ≡ left + 1 → k + 1 ≡ first + count
    → fewer ≡ take left (blocks_of count room)
    → overlaid first (blocks_of count room) (blocks_of n held) ≡ seen
    → ChangesOnly k seen (overlaid first fewer (blocks_of n held))
untaken_seen n first count left k held room fewer seen h more at is same j other =
    let there : List (List ℕ) = blocks_of n held in
    let run : List (List ℕ) = blocks_of left room in
    let last : List ℕ = octets_at room (left * BLOCK_OCTETS) in
    let long = length-blocks_of left room in
    let fewer_is : fewer ≡ run = is ∙ sym (fewer_blocks left count room (omega (arith, more))) in
    let more_is : run ++ last ∷ [] ≡ blocks_of count room =
    sym (one_more left room) ∙ ap (λ m. blocks_of m room) (sym more) in
    let j_other : j ≢ first + length run =
    λ e. other (e ∙ (omega (arith, long, more, at))) in
    ap (λ (r : List (List ℕ)). get_or (overlaid first r there) j []) fewer_is
    ∙ overlaid_fewer first run there last j
    (omega (arith, long, more, h, length-blocks_of n held)) j_other
    ∙ ap (λ (r : List (List ℕ)). get_or (overlaid first r there) j []) more_is
    ∙ ap (λ (s : List (List ℕ)). get_or s j []) same

-- a block that is gathered is seen
pub gathered_seen : (n first count k : ℕ) (held room octets : List ℕ) → first + count ≤ n
    → first ≤ k → k < first + count → octets ≡ get_or (blocks_of count room) (k - first) []
    → octets ≡ get_or (overlaid first (blocks_of count room) (blocks_of n held)) k []
gathered_seen n first count k held room octets h since before is =
    let run : List (List ℕ) = blocks_of count room in
    let there : List (List ℕ) = blocks_of n held in
    is
    ∙ sym (overlaid_within first run there (k - first) (omega (arith, h, length-blocks_of n held))
    (omega (arith, since, before, length-blocks_of count room)))
    ∙ ap (λ p. get_or (overlaid first run there) p []) (omega (arith, since))

-- of a block that isn't gathered the one in the file is seen
pub there_seen : (n first count k : ℕ) (held room : List ℕ) → first + count ≤ n
    → (first ≤ k → k < first + count → ⊥)
    → get_or (overlaid first (blocks_of count room) (blocks_of n held)) k []
    ≡ get_or (blocks_of n held) k []
there_seen n first count k held room h apart =
    let run : List (List ℕ) = blocks_of count room in
    let there : List (List ℕ) = blocks_of n held in
    let long = length-blocks_of count room in
    let fits : first ≤ length there = omega (arith, h, length-blocks_of n held) in
    elim (where_is first count k) [
      | Before before ↦ overlaid_before first run there k fits before
      | Within i within at ↦ absurd (apart (omega arith) (omega arith))
      | Behind behind ↦ overlaid_behind first run there k fits (omega (arith, long, behind))
    ]

-- what was read of a run is a copy of the blocks in the file
pub run_read : (n first count : ℕ) (held : List ℕ) (run : List (List ℕ)) → first + count ≤ n
    → run ≡ blocks_of count (octets_in held (first * BLOCK_OCTETS) (count * BLOCK_OCTETS))
    → (j : ℕ) → j < count → get_or run j [] ≡ get_or (blocks_of n held) (first + j) []
run_read n first count held run h is j among =
    ap (λ (r : List (List ℕ)). get_or r j [])
    (is ∙ cut_blocks count (drop (first * BLOCK_OCTETS) held))
    ∙ block_behind n count first j held among (omega (arith, h, among))

-- a copy of a block is the block
pub copy_read : (first many k : ℕ) (copy blocks : List (List ℕ)) (octets : List ℕ)
    → ((j : ℕ) → j < many → get_or copy j [] ≡ get_or blocks (first + j) [])
    → first ≤ k → k < first + many → octets ≡ get_or copy (k - first) []
    → octets ≡ get_or blocks k []
copy_read first many k copy blocks octets is since before read =
    read
    ∙ is (k - first) (omega (arith, since, before))
    ∙ ap (λ p. get_or blocks p []) (omega (arith, since))

-- the octets at the place of block k are that block
pub single_read : (n k place : ℕ) (held octets : List ℕ) → k < n → place ≡ k * BLOCK_OCTETS
    → octets ≡ octets_in held place BLOCK_OCTETS → octets ≡ get_or (blocks_of n held) k []
single_read n k place held octets h at is =
    is ∙ ap (λ p. octets_in held p BLOCK_OCTETS) at ∙ sym (block_there n k held h)
