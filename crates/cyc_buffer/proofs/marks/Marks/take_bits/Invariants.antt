use Rattle.std.proofs.Common.{◌≡◌, ◌<◌, ◌≤◌, ◌+◌, ◌⊎◌, ℕ, length, false}
use Rattle.news_terms.specs.HeadBlocks.{bits_of_block, is_set}
use Rattle.cyc_buffer.specs.Marks.{is_marked}
use Rattle.cyc_buffer.proofs.marks.Marks.take_bits.Given as goal

-- the marks so far are the bits so far, and none of those past the limit is set
abbrev pub invariant-loop-k : goal.invariant-loop-k
invariant-loop-k l =
    (length l.self.words.items ≡ length l.initial.self.words.items)
    × ((i : ℕ) → i < l.k → i < l.limit
    → is_marked l.self.words.items (l.from + i) ≡ is_set l.octets i)
    × ((j : ℕ) → (j < l.from) ⊎ (l.from + bits_of_block ≤ j)
    → is_marked l.self.words.items j ≡ is_marked l.initial.self.words.items j)
    × ((i : ℕ) → l.limit ≤ i → i < l.k → is_set l.octets i ≡ false)
