-- Bits of a bitmap, block by block.
use Rattle.std.proofs.Common.{◌≡◌, ◌∙◌, ℕ, ◌+◌, ◌-◌, ◌*◌, ◌%◌, ◌<◌, ◌≤◌, sym, ap, arith, List}
use Rattle.news_terms.specs.HeadBlocks.{bits_of_block, bitmap_blocks, is_set}
use Rattle.cyc_block.specs.Store.{block_at}
use Rattle.cyc_buffer.specs.Reads.{IsBeyond, HasBitPast}
use Rattle.cyc_buffer.specs.Stopped.{has_bit}

-- bit k of block i of the bitmap
bit_there : (heads : List (List ℕ)) (i k : ℕ) → k < bits_of_block
    → has_bit heads (bits_of_block * i + k) ≡ is_set (block_at heads (i + 1)) k
bit_there heads i k inside =
    ap (λ n. is_set (block_at heads n) ((bits_of_block * i + k) % bits_of_block))
    (omega (arith, inside))
    ∙ ap (is_set (block_at heads (i + 1))) (omega (arith, inside))

-- the bit of a block by the octets of its block of the bitmap
pub bit_of : (heads : List (List ℕ)) (octets : List ℕ) (i j : ℕ)
    → octets ≡ block_at heads (i + 1) → bits_of_block * i ≤ j → j < bits_of_block * (i + 1)
    → has_bit heads j ≡ is_set octets (j - bits_of_block * i)
bit_of heads octets i j is behind before =
    ap (has_bit heads) (omega (arith, behind))
    ∙ bit_there heads i (j - bits_of_block * i) (omega (arith, behind, before))
    ∙ ap (λ (o : List ℕ). is_set o (j - bits_of_block * i)) (sym is)

-- a bit past the limit of a block of the bitmap is one past the last block
pub past_is_beyond : (heads : List (List ℕ)) (octets : List ℕ) (i count : ℕ)
    → octets ≡ block_at heads (i + 1) → i < bitmap_blocks count → bits_of_block * i ≤ count
    → HasBitPast octets (count - bits_of_block * i) → IsBeyond heads count
past_is_beyond heads octets i count is inside within past = record {
  at = bits_of_block * i + past.at;
  behind = omega (arith, past.behind, within);
  within = omega (arith, inside, past.within);
  set = bit_there heads i past.at past.within ∙ ap (λ (o : List ℕ). is_set o past.at) (sym is)
      ∙ past.set;
}
