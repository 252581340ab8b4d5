-- There are as many blocks as were asked for, and their head blocks.
use Rattle.std.proofs.Common.{◌≡◌, ◌∙◌, List, ℕ, length, replicate, sym, ap, arith}
use Rattle.std.proofs.lemmas.List.{length-replicate}
use Rattle.news_terms.specs.HeadBlocks.{head_blocks}
use Rattle.cyc_block.specs.declared.TheConstants.{BLOCK_OCTETS}
use Rattle.cyc_block.proofs.memory.MemoryBlocks.new.Goals as goal

pub invariant_of-result : goal.invariant_of-result
invariant_of-result c =
    let zeros : List ℕ = replicate BLOCK_OCTETS 0 in
    let blocks : length c.in_ok-zeros.field-0.items ≡ c.args.n =
    ap (λ (blocks : List (List ℕ)). length blocks) c.in_ok-zeros.ensures
    ∙ length-replicate {A = List ℕ} c.args.n zeros in
    let heads : length c.in_ok-zeros-2.field-0.items ≡ c.head_count.result =
    ap (λ (blocks : List (List ℕ)). length blocks) c.in_ok-zeros-2.ensures
    ∙ length-replicate {A = List ℕ} c.head_count.result zeros in
    record {
      numbered = omega (arith, blocks, c.ranges.n.fits);
      headed = heads ∙ c.head_count.ensures ∙ ap head_blocks (sym blocks);
    }
