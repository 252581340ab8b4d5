-- Without its first block the run looks the same but for that.
use Rattle.std.proofs.Common.{arith}
use Rattle.file_blocks.specs.Run.{blocks_in}
use Rattle.file_blocks.proofs.AsideLemmas.{later_seen}
use Rattle.file_blocks.proofs.store.FileBlocks.drop_first.Goals as goal

pub drop_first-requires-clause-small : goal.drop_first-requires-clause-small
drop_first-requires-clause-small g c =
    let store = c.args.self.now in
    omega (arith, store.few, store.gathered_within, store.aside_some c.requires.aside)

pub returns-clause-others : goal.returns-clause-others
returns-clause-others g c =
    let store = c.args.self.now in
    let run = store.gathered in
    let later = c.drop_first.new.self in
    later_seen store.count run.first run.count later.first (g.F.RunFile.held store.file)
    run.octets.items (blocks_in later) store.gathered_within (store.aside_some c.requires.aside)
    c.drop_first.ensures.first c.drop_first.ensures.fewer
