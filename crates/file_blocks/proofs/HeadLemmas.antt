-- Head blocks are behind the blocks: a change of one of either kind leaves the other kind as it is.
use Rattle.std.proofs.Common.{◌≡◌, ◌≢◌, ◌∙◌, ◌+◌, ◌*◌, ◌<◌, ◌≤◌, ℕ, List, [], take, drop}
use Rattle.std.proofs.Common.{length, get_or, set, refl, sym, ap, subst, arith}
use Rattle.std.proofs.lemmas.List.{drop-drop, take-take}
use Rattle.cyc_block.specs.declared.TheConstants.{BLOCK_OCTETS}
use Rattle.news_terms.specs.HeadBlocks.{head_blocks}
use Rattle.file_blocks.specs.Blocks.{blocks_of, heads_of, octets_at, ChangesOnlyAt}
use Rattle.file_blocks.proofs.CutLemmas.{change_behind, length-blocks_of, other_blocks, read_block}
use Rattle.file_blocks.proofs.CutLemmas.{same_front, written_block}

-- there is one head block more than a bitmap of the blocks takes
pub length-heads_of : (n : ℕ) (octets : List ℕ)
    → length (heads_of n octets) ≡ head_blocks (length (blocks_of n octets))
length-heads_of n octets =
    length-blocks_of (head_blocks n) (drop (n * BLOCK_OCTETS) octets)
    ∙ sym (ap head_blocks (length-blocks_of n octets))

-- a number below that of the head blocks is one of theirs
head_within : (n k : ℕ) (octets : List ℕ) → k < head_blocks (length (blocks_of n octets))
    → k < length (heads_of n octets)
head_within n k octets h = subst (λ count. k < count) (sym (length-heads_of n octets)) h

-- what is read behind the blocks is read from their end on
octets_behind : (earlier place : ℕ) (octets : List ℕ)
    → octets_at (drop earlier octets) place ≡ octets_at octets (earlier + place)
octets_behind earlier place octets = ap (take BLOCK_OCTETS) (drop-drop place earlier octets)

-- what is read at the place of head block k is that block
pub read_head_block : (n k place : ℕ) (octets out : List ℕ)
    → k < head_blocks (length (blocks_of n octets))
    → place ≡ n * BLOCK_OCTETS + k * BLOCK_OCTETS → out ≡ octets_at octets place
    → out ≡ get_or (heads_of n octets) k []
read_head_block n k place octets out h at is =
    let end = n * BLOCK_OCTETS in
    read_block (head_blocks n) k (k * BLOCK_OCTETS) (drop end octets) out
    (head_within n k octets h) refl
    (is ∙ ap (octets_at octets) at ∙ sym (octets_behind end (k * BLOCK_OCTETS) octets))

-- a change at the place of head block k is one of the octets behind the blocks
head_change : (n k place : ℕ) (old new : List ℕ)
    → place ≡ n * BLOCK_OCTETS + k * BLOCK_OCTETS → ChangesOnlyAt place old new
    → ChangesOnlyAt (k * BLOCK_OCTETS) (drop (n * BLOCK_OCTETS) old)
    (drop (n * BLOCK_OCTETS) new)
head_change n k place old new at c =
    change_behind (n * BLOCK_OCTETS) (k * BLOCK_OCTETS) old new
    (subst (λ p. ChangesOnlyAt p old new) at c)

-- what is written at the place of head block k is that block afterwards
pub written_head : (n k place : ℕ) (old new octets : List ℕ)
    → k < head_blocks (length (blocks_of n old))
    → place ≡ n * BLOCK_OCTETS + k * BLOCK_OCTETS → ChangesOnlyAt place old new
    → octets_at new place ≡ octets → heads_of n new ≡ set (heads_of n old) k octets
written_head n k place old new octets h at c is =
    let end = n * BLOCK_OCTETS in
    written_block (head_blocks n) k (k * BLOCK_OCTETS) (drop end old) (drop end new) octets
    (head_within n k old h) refl (head_change n k place old new at c)
    (octets_behind end (k * BLOCK_OCTETS) new ∙ ap (octets_at new) (sym at) ∙ is)

-- each other head block is as before
pub other_heads : (n k place : ℕ) (old new : List ℕ)
    → k < head_blocks (length (blocks_of n old))
    → place ≡ n * BLOCK_OCTETS + k * BLOCK_OCTETS → ChangesOnlyAt place old new
    → (j : ℕ) → j ≢ k → get_or (heads_of n new) j [] ≡ get_or (heads_of n old) j []
other_heads n k place old new h at c =
    other_blocks (head_blocks n) k (k * BLOCK_OCTETS) (drop (n * BLOCK_OCTETS) old)
    (drop (n * BLOCK_OCTETS) new) (head_within n k old h) refl
    (head_change n k place old new at c)

-- a change at the place of a head block leaves the blocks as they are
pub blocks_stay : (n k place : ℕ) (old new : List ℕ)
    → place ≡ n * BLOCK_OCTETS + k * BLOCK_OCTETS → ChangesOnlyAt place old new
    → blocks_of n new ≡ blocks_of n old
blocks_stay n k place old new at c =
    let end = n * BLOCK_OCTETS in
    let before : end ≤ place = omega (arith, at) in
    same_front n old new
    (sym (take-take end place new before)
    ∙ ap (λ (octets : List ℕ). take end octets) c.before
    ∙ take-take end place old before)
