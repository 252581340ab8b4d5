-- What BlockLemmas says of the first block.
use Rattle.std.proofs.Common.{sym, ◌∙◌}
use Rattle.std.proofs.lemmas.Option.{none-some}
use Rattle.news_terms.proofs.BlockLemmas.{CutsBlock-from_first, first_block-cuts}
use Rattle.news_terms.proofs.BlockLemmas.{first_block-none_cuts, first_block-append}
use Rattle.news_terms.proofs.cutting.first_block_law.Goals as goal

pub returns-clause-exact : goal.returns-clause-exact
returns-clause-exact c =
    λ s lines rest. (CutsBlock-from_first s lines rest, first_block-cuts s lines rest)

pub returns-clause-none : goal.returns-clause-none
returns-clause-none c =
    λ s. (
      λ none lines rest cut. none-some (lines, rest)
          (sym none ∙ first_block-cuts s lines rest cut),
      first_block-none_cuts s,
    )

pub returns-clause-grows : goal.returns-clause-grows
returns-clause-grows c = first_block-append
