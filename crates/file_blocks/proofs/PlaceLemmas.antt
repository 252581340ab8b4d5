-- Runs of blocks of a file by their places.
use Rattle.std.proofs.Common.{◌≡◌, ◌∙◌, ◌+◌, ◌-◌, ◌*◌, ◌<◌, ◌≤◌, inl, inr, ℕ, List, []}
use Rattle.std.proofs.Common.{take, drop, get_or, sym, ap, arith}
use Rattle.std.proofs.lemmas.Bool.{cases_lt}
use Rattle.std.proofs.lemmas.List.{drop-drop, take-take, get_or_past}
use Rattle.cyc_block.specs.declared.TheConstants.{BLOCK_OCTETS}
use Rattle.file_blocks.specs.Blocks.{blocks_of}
use Rattle.file_blocks.proofs.CutLemmas.{block_there, length-blocks_of, same_front}
use Rattle.file_blocks.specs.File.{octets_in, ChangesOnlyIn}
use Rattle.file_blocks.proofs.OverlayLemmas.{ChangesOnlyRun}

-- a block is the same, cut off with more or with fewer
pub same_cut : (n m j : ℕ) (octets : List ℕ) → j < n → j < m
    → get_or (blocks_of n octets) j [] ≡ get_or (blocks_of m octets) j []
same_cut n m j octets h k = block_there n j octets h ∙ sym (block_there m j octets k)

-- what is cut off behind so many blocks is the block so much later
pub block_behind : (n m first i : ℕ) (octets : List ℕ) → i < m → first + i < n
    → get_or (blocks_of m (drop (first * BLOCK_OCTETS) octets)) i []
    ≡ get_or (blocks_of n octets) (first + i) []
block_behind n m first i octets h k =
    block_there m i (drop (first * BLOCK_OCTETS) octets) h
    ∙ ap (λ (o : List ℕ). take BLOCK_OCTETS o)
    (drop-drop (i * BLOCK_OCTETS) (first * BLOCK_OCTETS) octets
    ∙ ap (λ p. drop p octets) (omega arith))
    ∙ sym (block_there n (first + i) octets k)

-- no block is behind the last one
past : (n j : ℕ) (old new : List ℕ) → n ≤ j
    → get_or (blocks_of n new) j [] ≡ get_or (blocks_of n old) j []
past n j old new h =
    get_or_past (blocks_of n new) j [] (omega (arith, length-blocks_of n new))
    ∙ sym (get_or_past (blocks_of n old) j [] (omega (arith, length-blocks_of n old)))

-- a block before the octets that were changed is as before
block_before : (n first size j : ℕ) (old new : List ℕ) → first ≤ n
    → ChangesOnlyIn (first * BLOCK_OCTETS) size old new → j < first
    → get_or (blocks_of n new) j [] ≡ get_or (blocks_of n old) j []
block_before n first size j old new h c before =
    same_cut n first j new (omega arith) before
    ∙ ap (λ (blocks : List (List ℕ)). get_or blocks j []) (same_front first old new c.before)
    ∙ sym (same_cut n first j old (omega arith) before)

-- a block behind the octets that were changed is as before
block_since : (n first count j : ℕ) (old new : List ℕ) → j < n
    → ChangesOnlyIn (first * BLOCK_OCTETS) (count * BLOCK_OCTETS) old new → first + count ≤ j
    → get_or (blocks_of n new) j [] ≡ get_or (blocks_of n old) j []
block_since n first count j old new h c behind =
    let end : ℕ = first * BLOCK_OCTETS + count * BLOCK_OCTETS in
    let later : ℕ = (j - (first + count)) * BLOCK_OCTETS in
    let e : end + later ≡ j * BLOCK_OCTETS = omega arith in
    let same : drop (j * BLOCK_OCTETS) new ≡ drop (j * BLOCK_OCTETS) old =
    sym (ap (λ p. drop p new) e)
    ∙ sym (drop-drop later end new)
    ∙ ap (λ (o : List ℕ). drop later o) c.behind
    ∙ drop-drop later end old
    ∙ ap (λ p. drop p old) e in
    block_there n j new h
    ∙ ap (λ (o : List ℕ). take BLOCK_OCTETS o) same
    ∙ sym (block_there n j old h)

-- a change of the octets of a run of blocks is a change of these blocks alone
pub run_changed : (n first count : ℕ) (old new : List ℕ) → first + count ≤ n
    → ChangesOnlyIn (first * BLOCK_OCTETS) (count * BLOCK_OCTETS) old new
    → ChangesOnlyRun first count (blocks_of n old) (blocks_of n new)
run_changed n first count old new h c = record {
  before = λ j before. block_before n first (count * BLOCK_OCTETS) j old new (omega arith) c before;
  behind = λ j behind. elim (cases_lt j n) [
    | inl within ↦ block_since n first count j old new within c behind
    | inr past_it ↦ past n j old new past_it
  ];
}

-- the octets of a run are its blocks
pub run_there : (n first count i : ℕ) (octets run : List ℕ) → first + count ≤ n → i < count
    → octets_in octets (first * BLOCK_OCTETS) (count * BLOCK_OCTETS) ≡ run
    → get_or (blocks_of n octets) (first + i) [] ≡ get_or (blocks_of count run) i []
run_there n first count i octets run h within is =
    let behind : List ℕ = drop (first * BLOCK_OCTETS) octets in
    let size : ℕ = count * BLOCK_OCTETS in
    let front : take size behind ≡ take size run =
    sym (take-take size size behind (omega arith)) ∙ ap (λ (o : List ℕ). take size o) is in
    sym (block_behind n count first i octets within (omega arith))
    ∙ ap (λ (blocks : List (List ℕ)). get_or blocks i []) (same_front count run behind front)
