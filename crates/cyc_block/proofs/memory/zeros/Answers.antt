-- One block more of zeros.
use Rattle.std.proofs.Common.{◌∙◌, ◌++◌, ◌∷◌, [], List, ℕ, ap, replicate, arith}
use Rattle.std.proofs.lemmas.List.{replicate_more}
use Rattle.cyc_block.specs.Store.{empty_blocks}
use Rattle.cyc_block.specs.declared.TheConstants.{BLOCK_OCTETS}
use Rattle.cyc_block.proofs.memory.zeros.Goals as goal

pub loop-block-preserved : goal.loop-block-preserved
loop-block-preserved c =
    let zeros = replicate BLOCK_OCTETS 0 in
    c.in_ok-push.ensures.items
    ∙ ap (λ (blocks : List (List ℕ)). blocks ++ zeros ∷ []) c.loop-block.invariant
    ∙ replicate_more c.loop-block._block zeros

pub returns : goal.returns
returns c =
    c.loop-block.invariant
    ∙ ap empty_blocks (omega (arith, c.loop-block-test.false, c.loop-block.auto._block-end))
