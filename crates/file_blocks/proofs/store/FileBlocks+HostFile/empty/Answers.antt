-- Nothing is gathered.
use Rattle.file_blocks.proofs.RunLemmas.{no_blocks}
use Rattle.file_blocks.proofs.store.«FileBlocks+HostFile».empty.Goals as goal

pub returns-clause-gathered : goal.returns-clause-gathered
returns-clause-gathered c =
    let run = c.clear.new.self in no_blocks run.count run.octets.items c.clear.ensures.none
