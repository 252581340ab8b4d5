-- The octets are each one of the bitmap's block, so they are all of it.
use Rattle.std.proofs.Common.{◌≡◌, ◌∙◌, ◌+◌, ◌*◌, arith, get_or, set}
use Rattle.std.proofs.lemmas.List.{get_or-set_other, get_or-set_same, length-set}
use borrow.Author.Count.{below_more}
use Rattle.news_terms.specs.HeadBlocks.{octet_of}
use Rattle.cyc_buffer.specs.Marks.{is_told}
use Rattle.cyc_buffer.proofs.MarkLemmas.{whole_block}
use Rattle.cyc_buffer.proofs.marks.Marks.bitmap_block.Goals as goal

pub returns : goal.returns
returns c =
    whole_block c.loop-k.octets (is_told c.args.self.now.words.items c.args.count) c.args.i _
    (omega (arith, c.from-from.ensures)) c.loop-k.invariant.length
    (λ m h. c.loop-k.invariant.octets m (omega (arith, h, c.loop-k-test.false)))

pub loop-k-preserved : goal.loop-k-preserved
loop-k-preserved c =
    let was = c.loop-k.octets in
    let octet = c.octet.result in
    let told = is_told c.args.self.now.words.items c.args.count in
    let from = c.from-from.result * 4096 in
    record {
      octets = below_more
          (λ m. get_or (set was c.loop-k.k octet) m 0 ≡ octet_of told (from + 8 * m)) c.loop-k.k
          (λ m h. get_or-set_other was c.loop-k.k m octet 0 (λ e. omega (arith, h, e))
          ∙ c.loop-k.invariant.octets m h)
          (get_or-set_same was c.loop-k.k octet 0
          (omega (arith, c.loop-k.invariant.length, c.loop-k-test.true))
          ∙ c.octet.ensures);
      length = length-set was c.loop-k.k octet ∙ c.loop-k.invariant.length;
    }
