-- The blocks are those of the octets up to their end.
use Rattle.std.proofs.Common.{◌∙◌, List, ℕ, ap}
use Rattle.file_blocks.specs.Blocks.{blocks_of}
use Rattle.file_blocks.proofs.RunLemmas.{cut_blocks}
use Rattle.file_blocks.proofs.run.Run.octets.Goals as goal

pub returns-clause-blocks : goal.returns-clause-blocks
returns-clause-blocks c =
    cut_blocks c.args.self.now.count c.as_slice-all.result.now
    ∙ ap (λ (o : List ℕ). blocks_of c.args.self.now.count o) c.as_slice-all.ensures.value
