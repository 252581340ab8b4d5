-- Nothing is gathered, so the blocks in the file are seen.
use Rattle.file_blocks.proofs.RunLemmas.{no_blocks}
use Rattle.file_blocks.proofs.SeenLemmas.{none_gathered}
use Rattle.file_blocks.specs.Blocks.{blocks_of}
use Rattle.file_blocks.proofs.store.FileBlocks.new.Goals as goal

pub returns-clause-gathered : goal.returns-clause-gathered
returns-clause-gathered g c =
    let run = c.in_ok-new.field-0 in
    no_blocks run.count run.octets.items c.in_ok-new.ensures.none

pub returns-clause-blocks : goal.returns-clause-blocks
returns-clause-blocks g c =
    let run = c.in_ok-new.field-0 in
    none_gathered run.first run.count run.octets.items
    (blocks_of c.args.n (g.F.RunFile.held c.args.file)) c.in_ok-new.ensures.none
