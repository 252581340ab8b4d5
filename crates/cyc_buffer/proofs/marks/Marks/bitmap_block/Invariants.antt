use Rattle.std.proofs.Common.{◌≡◌, ℕ, ◌+◌, ◌*◌, ◌<◌, get_or, length}
use Rattle.news_terms.specs.HeadBlocks.{octet_of}
use Rattle.cyc_buffer.specs.Marks.{is_told}
use Rattle.cyc_buffer.proofs.marks.Marks.bitmap_block.Given as goal

-- the octets so far are those of the marks
abbrev pub invariant-loop-k : goal.invariant-loop-k
invariant-loop-k l = record {
  octets : (m : ℕ) → m < l.k
      → get_or l.octets m 0 ≡ octet_of (is_told l.fn.self.words.items l.fn.count) (l.from + 8 * m);
  length : length l.octets ≡ 512;
}
