-- The blocks of a run by its octets.
use Rattle.std.proofs.Common.{◌≡◌, ◌∙◌, ◌+◌, ◌*◌, ◌<◌, ◌≤◌, ℕ, zero, suc, List, [], ◌∷◌, ◌++◌}
use Rattle.std.proofs.Common.{length, take, drop, get_or, refl, sym, ap, subst, arith}
use Rattle.std.proofs.Common.{add-one}
use Rattle.std.specs.Global.{Vec}
use Rattle.std.specs.Vec.{with_items}
use Rattle.std.proofs.lemmas.List.{drop-drop, take-take, with_items_is}
use Rattle.std.proofs.lemmas.List.Edits.{take-paste}
use Rattle.std.proofs.Math.Seq.{paste}
use Rattle.cyc_block.specs.declared.TheConstants.{BLOCK_OCTETS}
use Rattle.file_blocks.specs.Blocks.{blocks_of, octets_at, ChangesOnlyAt}
use Rattle.file_blocks.proofs.CutLemmas.{block_there, same_front}

-- octets in place of as many are as many
pub as_many : (octets : Vec ℕ) (now : List ℕ) (n : ℕ) → length now ≡ octets.len
    → length octets.items ≡ n → length (with_items octets now).items ≡ n
as_many octets now n same long =
    ap (λ (o : List ℕ). length o) (with_items_is octets now same)
    ∙ (omega (arith, octets.ok, same, long))

-- no blocks are cut off where none are asked for
pub no_blocks : (n : ℕ) (octets : List ℕ) → n ≡ 0 → blocks_of n octets ≡ []
unfolding blocks_of
no_blocks zero octets none = refl
no_blocks (suc n) octets none = absurd (omega (arith, none))

-- the first of the blocks that are cut off are those that are cut off where fewer are
pub fewer_blocks : (m n : ℕ) (octets : List ℕ) → m ≤ n
    → blocks_of m octets ≡ take m (blocks_of n octets)
unfolding blocks_of
fewer_blocks zero n octets h = refl
fewer_blocks (suc m) zero octets h = absurd (omega (arith, h))
fewer_blocks (suc m) (suc n) octets h =
    ap (λ (rest : List (List ℕ)). octets_at octets 0 ∷ rest)
    (fewer_blocks m n (drop BLOCK_OCTETS octets) (omega (arith, h)))

-- the last block that is cut off is the one behind the others
last_block : (n : ℕ) (octets : List ℕ)
    → blocks_of (suc n) octets ≡ blocks_of n octets ++ octets_at octets (n * BLOCK_OCTETS) ∷ []
unfolding blocks_of
last_block zero octets = refl
last_block (suc n) octets =
    let later : BLOCK_OCTETS + n * BLOCK_OCTETS ≡ suc n * BLOCK_OCTETS = omega arith in
    ap (λ (rest : List (List ℕ)). octets_at octets 0 ∷ rest)
    (last_block n (drop BLOCK_OCTETS octets)
    ∙ ap (λ (block : List ℕ). blocks_of n (drop BLOCK_OCTETS octets) ++ block ∷ [])
    (ap (take BLOCK_OCTETS)
    (drop-drop (n * BLOCK_OCTETS) BLOCK_OCTETS octets ∙ ap (λ p. drop p octets) later)))

-- one block more is the one behind the others
pub one_more : (n : ℕ) (octets : List ℕ)
    → blocks_of (n + 1) octets ≡ blocks_of n octets ++ octets_at octets (n * BLOCK_OCTETS) ∷ []
one_more n octets =
    ap (λ m. blocks_of m octets) (add-one n) ∙ last_block n octets

-- blocks that are cut off octets that end with them are those of the octets
pub cut_blocks : (n : ℕ) (octets : List ℕ)
    → blocks_of n (take (n * BLOCK_OCTETS) octets) ≡ blocks_of n octets
cut_blocks n octets =
    same_front n octets (take (n * BLOCK_OCTETS) octets)
    (take-take (n * BLOCK_OCTETS) (n * BLOCK_OCTETS) octets (omega arith))

-- a block that was put behind the others is the last of one more
pub put_block : (n place : ℕ) (old new block : List ℕ) → place ≡ n * BLOCK_OCTETS
    → ChangesOnlyAt place old new → octets_at new place ≡ block
    → blocks_of (n + 1) new ≡ blocks_of n old ++ block ∷ []
put_block n place old new block at c is =
    one_more n new
    ∙ ap (λ (b : List ℕ). blocks_of n new ++ b ∷ [])
    (ap (octets_at new) (sym at) ∙ is)
    ∙ ap (λ (blocks : List (List ℕ)). blocks ++ block ∷ [])
    (same_front n old new (subst (λ p. take p new ≡ take p old) at c.before))

-- the octets that are read at the place of a block are the block
pub got_block : (n j place size : ℕ) (all octets out : List ℕ) → j < n → place ≡ j * BLOCK_OCTETS
    → size ≡ BLOCK_OCTETS → all ≡ octets → out ≡ take size (drop place all)
    → out ≡ get_or (blocks_of n octets) j []
got_block n j place size all octets out h at long same is =
    is
    ∙ ap (λ (s : ℕ). take s (drop place all)) long
    ∙ ap (λ (p : ℕ). take BLOCK_OCTETS (drop p all)) at
    ∙ ap (λ (o : List ℕ). take BLOCK_OCTETS (drop (j * BLOCK_OCTETS) o)) same
    ∙ sym (block_there n j octets h)

-- where all blocks but the first are moved to the front, they are the blocks there
pub moved_blocks : (left size : ℕ) (old new : List ℕ) → left * BLOCK_OCTETS ≤ size
    → size ≤ length (drop BLOCK_OCTETS old) → new ≡ paste old 0 (drop BLOCK_OCTETS old) size
    → blocks_of left new ≡ drop 1 (blocks_of (left + 1) old)
unfolding blocks_of
moved_blocks left size old new h fits is =
    let rest : List ℕ = drop BLOCK_OCTETS old in
    let front : take size new ≡ take 0 old ++ take size rest =
    ap (λ (o : List ℕ). take size o) is
    ∙ ap (λ (m : ℕ). take m (paste old 0 rest size)) (omega arith)
    ∙ take-paste old 0 rest size (omega arith) fits in
    same_front left rest new
    (sym (take-take (left * BLOCK_OCTETS) size new h)
    ∙ ap (λ (o : List ℕ). take (left * BLOCK_OCTETS) o) front
    ∙ take-take (left * BLOCK_OCTETS) size rest h)
    ∙ sym (ap (λ (m : ℕ). drop 1 (blocks_of m old)) (add-one left))
