-- The block that was taken is the one that is seen.
use Rattle.std.proofs.Common.{arith}
use Rattle.file_blocks.specs.Run.{blocks_in}
use Rattle.file_blocks.proofs.SeenLemmas.{taken_seen}
use Rattle.file_blocks.proofs.store.FileBlocks.take.Goals as goal

pub returns-clause-blocks : goal.returns-clause-blocks
returns-clause-blocks g c =
    let store = c.args.self.now in
    let run = store.gathered in
    let more = c.put.new.self in
    taken_seen store.count run.first more.first run.count c.args.k
    (g.F.RunFile.held store.file) run.octets.items (blocks_in more) c.args.octets.now
    c.requires.within c.put.ensures.first
    (λ some. omega (arith, c.requires.room.follows some, c.put.ensures.first)) c.put.ensures.more
