use Rattle.std.proofs.Common.{◌∙◌, ◌*◌, ℕ, ap}
use Rattle.cyc_block.specs.declared.TheConstants.{BLOCK_OCTETS}
use Rattle.file_blocks.proofs.BlankLemmas.{blank}
use Rattle.file_blocks.proofs.fitted.FittedFile.is_blank.Goals as goal

-- the first block is of zeros, and the first head block was looked at
pub returns-then-block-clause-blank : goal.returns-then-block-clause-blank
returns-then-block-clause-blank g c = λ honest.
    blank _ _ _ _ _ _ c.if-block.true
    (c.place_of.ensures ∙ ap (λ (n : ℕ). n * BLOCK_OCTETS) c.in_ok-block.ensures.count)
    (c.in_ok-block.ensures.same honest) (c.in_ok-block.ensures.zero honest)
    (c.in_ok-head.ensures.zero (c.in_ok-block.ensures.honest honest))

-- the file stays honest, and holds what it held, over both reads
pub returns-then-block-clause-same : goal.returns-then-block-clause-same
returns-then-block-clause-same g c = λ honest.
    c.in_ok-head.ensures.same (c.in_ok-block.ensures.honest honest)
    ∙ c.in_ok-block.ensures.same honest

pub returns-then-block-clause-honest : goal.returns-then-block-clause-honest
returns-then-block-clause-honest g c = λ honest.
    c.in_ok-head.ensures.honest (c.in_ok-block.ensures.honest honest)

pub returns-else-block-clause-same : goal.returns-else-block-clause-same
returns-else-block-clause-same g c = λ honest.
    c.in_ok-head.ensures.same (c.in_ok-block.ensures.honest honest)
    ∙ c.in_ok-block.ensures.same honest

pub returns-else-block-clause-honest : goal.returns-else-block-clause-honest
returns-else-block-clause-honest g c = λ honest.
    c.in_ok-head.ensures.honest (c.in_ok-block.ensures.honest honest)

pub returns-in_err-head-clause-same : goal.returns-in_err-head-clause-same
returns-in_err-head-clause-same g c = λ honest.
    c.in_err-head.ensures.same (c.in_ok-block.ensures.honest honest)
    ∙ c.in_ok-block.ensures.same honest

pub returns-in_err-head-clause-honest : goal.returns-in_err-head-clause-honest
returns-in_err-head-clause-honest g c = λ honest.
    c.in_err-head.ensures.honest (c.in_ok-block.ensures.honest honest)
