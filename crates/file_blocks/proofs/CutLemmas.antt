-- Blocks are what is read at their places; a change at the place of one is a change of it alone.
use Rattle.std.proofs.Common.{◌≡◌, ◌≢◌, ◌∙◌, ◌+◌, ◌*◌, ◌<◌, ◌≤◌, ℕ, zero, suc, List, [], ◌∷◌}
use Rattle.std.proofs.Common.{length, take, drop, get_or, set, refl, sym, ap, subst, arith}
use Rattle.std.proofs.lemmas.List.{drop-drop, take-take, drop-take, get_or-set_other}
use Rattle.cyc_block.specs.declared.TheConstants.{BLOCK_OCTETS}
use Rattle.file_blocks.specs.Blocks.{blocks_of, octets_at, ChangesOnlyAt}

-- so many blocks are cut as are asked for
pub length-blocks_of : (n : ℕ) (octets : List ℕ) → length (blocks_of n octets) ≡ n
unfolding blocks_of
length-blocks_of zero octets = refl
length-blocks_of (suc n) octets = ap suc (length-blocks_of n (drop BLOCK_OCTETS octets))

-- where each block but the first begins
later_place : (k : ℕ) → suc k * BLOCK_OCTETS ≡ BLOCK_OCTETS + k * BLOCK_OCTETS
later_place k = omega arith

-- what is behind the first block begins a block later
one_later : (k : ℕ) (octets : List ℕ)
    → drop (k * BLOCK_OCTETS) (drop BLOCK_OCTETS octets) ≡ drop (suc k * BLOCK_OCTETS) octets
one_later k octets =
    drop-drop (k * BLOCK_OCTETS) BLOCK_OCTETS octets
    ∙ sym (ap (λ n. drop n octets) (later_place k))

-- block k is what is read at its place
pub block_there : (n k : ℕ) (octets : List ℕ) → k < n
    → get_or (blocks_of n octets) k [] ≡ octets_at octets (k * BLOCK_OCTETS)
unfolding blocks_of
block_there zero k octets h = absurd (omega (arith, h))
block_there (suc n) zero octets h = refl
block_there (suc n) (suc k) octets h =
    block_there n k (drop BLOCK_OCTETS octets) (omega (arith, h))
    ∙ ap (take BLOCK_OCTETS) (one_later k octets)

-- as the octets are the same up to a place, so are those of them that are behind an earlier place
pub front_behind : (earlier place : ℕ) (old new : List ℕ)
    → take (earlier + place) new ≡ take (earlier + place) old
    → take place (drop earlier new) ≡ take place (drop earlier old)
front_behind earlier place old new same =
    sym (drop-take earlier place new)
    ∙ ap (λ (octets : List ℕ). drop earlier octets) same
    ∙ drop-take earlier place old

-- a change at a place is one of the octets behind an earlier place
pub change_behind : (earlier place : ℕ) (old new : List ℕ) → ChangesOnlyAt (earlier + place) old new
    → ChangesOnlyAt place (drop earlier old) (drop earlier new)
change_behind earlier place old new c =
    let e : earlier + (place + BLOCK_OCTETS) ≡ earlier + place + BLOCK_OCTETS = omega arith in
    record {
      before = front_behind earlier place old new c.before;
      behind = drop-drop (place + BLOCK_OCTETS) earlier new
          ∙ ap (λ n. drop n new) e
          ∙ c.behind
          ∙ sym (ap (λ n. drop n old) e)
          ∙ sym (drop-drop (place + BLOCK_OCTETS) earlier old);
    }

-- the first block is the same where only a later one changes
first_stays : (k : ℕ) (old new : List ℕ)
    → take (suc k * BLOCK_OCTETS) new ≡ take (suc k * BLOCK_OCTETS) old
    → take BLOCK_OCTETS new ≡ take BLOCK_OCTETS old
first_stays k old new same =
    let fits : BLOCK_OCTETS ≤ suc k * BLOCK_OCTETS = omega arith in
    sym (take-take BLOCK_OCTETS (suc k * BLOCK_OCTETS) new fits)
    ∙ ap (λ (octets : List ℕ). take BLOCK_OCTETS octets) same
    ∙ take-take BLOCK_OCTETS (suc k * BLOCK_OCTETS) old fits

-- where only the octets at the place of block k change, the blocks are the same but for that one
pub block_changed : (n k : ℕ) (old new : List ℕ) → k < n
    → ChangesOnlyAt (k * BLOCK_OCTETS) old new
    → blocks_of n new ≡ set (blocks_of n old) k (octets_at new (k * BLOCK_OCTETS))
unfolding blocks_of
block_changed zero k old new h c = absurd (omega (arith, h))
block_changed (suc n) zero old new h c =
    ap (λ (rest : List ℕ). octets_at new 0 ∷ blocks_of n rest) c.behind
block_changed (suc n) (suc k) old new h c =
    let later = block_changed n k (drop BLOCK_OCTETS old) (drop BLOCK_OCTETS new)
    (omega (arith, h)) (change_behind BLOCK_OCTETS (k * BLOCK_OCTETS) old new
    (subst (λ p. ChangesOnlyAt p old new) (later_place k) c)) in
    let there = ap (take BLOCK_OCTETS) (one_later k new) in
    ap (λ (octets : List ℕ). octets ∷ blocks_of n (drop BLOCK_OCTETS new))
    (first_stays k old new c.before)
    ∙ ap (λ (rest : List (List ℕ)). octets_at old 0 ∷ rest)
    (later ∙ ap (λ (octets : List ℕ). set (blocks_of n (drop BLOCK_OCTETS old)) k octets) there)

-- two cuts into so many blocks are as many
pub same_count : (n : ℕ) (old new : List ℕ)
    → length (blocks_of n new) ≡ length (blocks_of n old)
same_count n old new = length-blocks_of n new ∙ sym (length-blocks_of n old)

-- a number below that of the blocks cut is below that asked for
pub within : (n k : ℕ) (octets : List ℕ) → k < length (blocks_of n octets) → k < n
within n k octets h = omega (arith, h, length-blocks_of n octets)

-- what is read at the place of block k is that block
pub read_block : (n k place : ℕ) (octets out : List ℕ) → k < length (blocks_of n octets)
    → place ≡ k * BLOCK_OCTETS → out ≡ octets_at octets place
    → out ≡ get_or (blocks_of n octets) k []
read_block n k place octets out h at is =
    is ∙ ap (octets_at octets) at ∙ sym (block_there n k octets (within n k octets h))

-- a change at the place of block k is a change of that block
placed_change : (n k place : ℕ) (old new : List ℕ) → k < length (blocks_of n old)
    → place ≡ k * BLOCK_OCTETS → ChangesOnlyAt place old new
    → blocks_of n new ≡ set (blocks_of n old) k (octets_at new place)
placed_change n k place old new h at c =
    block_changed n k old new (within n k old h)
    (subst (λ p. ChangesOnlyAt p old new) at c)
    ∙ ap (λ p. set (blocks_of n old) k (octets_at new p)) (sym at)

-- what is written at the place of block k is that block afterwards
pub written_block : (n k place : ℕ) (old new octets : List ℕ) → k < length (blocks_of n old)
    → place ≡ k * BLOCK_OCTETS → ChangesOnlyAt place old new → octets_at new place ≡ octets
    → blocks_of n new ≡ set (blocks_of n old) k octets
written_block n k place old new octets h at c is =
    placed_change n k place old new h at c
    ∙ ap (λ (block : List ℕ). set (blocks_of n old) k block) is

-- each other block is as before
pub other_blocks : (n k place : ℕ) (old new : List ℕ) → k < length (blocks_of n old)
    → place ≡ k * BLOCK_OCTETS → ChangesOnlyAt place old new → (j : ℕ) → j ≢ k
    → get_or (blocks_of n new) j [] ≡ get_or (blocks_of n old) j []
other_blocks n k place old new h at c j other =
    ap (λ (blocks : List (List ℕ)). get_or blocks j []) (placed_change n k place old new h at c)
    ∙ get_or-set_other (blocks_of n old) k j (octets_at new place) [] other

-- so many blocks are the same where the octets up to their end are
pub same_front : (n : ℕ) (old new : List ℕ)
    → take (n * BLOCK_OCTETS) new ≡ take (n * BLOCK_OCTETS) old
    → blocks_of n new ≡ blocks_of n old
unfolding blocks_of
same_front zero old new same = refl
same_front (suc n) old new same =
    let later = same_front n (drop BLOCK_OCTETS old) (drop BLOCK_OCTETS new)
    (front_behind BLOCK_OCTETS (n * BLOCK_OCTETS) old new
    (subst (λ p. take p new ≡ take p old) (later_place n) same)) in
    ap (λ (octets : List ℕ). octets ∷ blocks_of n (drop BLOCK_OCTETS new))
    (first_stays n old new same)
    ∙ ap (λ (rest : List (List ℕ)). octets_at old 0 ∷ rest) later
