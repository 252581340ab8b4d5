-- A store of zeros is fresh.
use Rattle.std.proofs.Common.{◌≡◌, ◌∙◌, ℕ, inl, inr, ap, arith, get_or, List, [], replicate}
use Rattle.std.proofs.Math.ListN.{get_or-eq_default}
use Rattle.std.proofs.lemmas.Bool.{cases_lt}
use Rattle.std.proofs.lemmas.List.{get_or-replicate, length-replicate}
use Rattle.cyc_block.specs.Store.{block_at, empty_blocks}
use Rattle.cyc_block.specs.declared.TheConstants.{BLOCK_OCTETS}
use Rattle.cyc_block.specs.declared.store.BlockStore.{Ghosts}
use Rattle.cyc_buffer.specs.Stopped.{IsImageUnder}
use Rattle.news_terms.specs.Token.{Token}
use Rattle.block_shelf.specs.Leaving.{IsFresh}

-- the first octet of each of its blocks is 0
first_octet : (n j : ℕ) → get_or (block_at (empty_blocks n) j) 0 0 ≡ 0
first_octet n j = elim (cases_lt j n) [
  | inl within ↦
      ap (λ (octets : List ℕ). get_or octets 0 0)
      (get_or-replicate n j (replicate {A = ℕ} BLOCK_OCTETS 0) [] within)
      ∙ get_or-replicate {A = ℕ} BLOCK_OCTETS 0 0 0 (omega arith)
  | inr past ↦ ap (λ (octets : List ℕ). get_or octets 0 0)
      (get_or-eq_default (empty_blocks n) []
      (omega (arith, past, length-replicate n (replicate {A = ℕ} BLOCK_OCTETS 0))))
]

-- a block of an article begins with another
no_image : (n j : ℕ) (blocks : List (List ℕ)) → blocks ≡ empty_blocks n → (t : Token) (k : ℕ)
    → IsImageUnder (block_at blocks j) t k → ⊥
no_image n j blocks zeros t k is =
    let first : get_or (block_at blocks j) 0 0 ≡ 67 =
    ap (λ (octets : List ℕ). get_or octets 0 0) is.image in
    omega (
      arith,
      first,
      ap (λ (all : List (List ℕ)). get_or (block_at all j) 0 0) zeros,
      first_octet n j,
    )

-- so an honest store of zeros is fresh
pub zeros_fresh : {S : Type 0} (g : Ghosts S) (store : S) (n : ℕ) → g.honest store
    → g.blocks store ≡ empty_blocks n → IsFresh g store
zeros_fresh g store n sure zeros = record {
  honest = sure;
  blank = λ j t k is. no_image n j (g.blocks store) zeros t k is;
}
