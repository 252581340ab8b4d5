-- As many blocks are seen as are counted.
use Rattle.std.proofs.Common.{◌∙◌, ◌*◌, sym, ap, drop}
use Rattle.news_terms.specs.HeadBlocks.{head_blocks}
use Rattle.cyc_block.specs.declared.TheConstants.{BLOCK_OCTETS}
use Rattle.file_blocks.proofs.CutLemmas.{length-blocks_of}
use Rattle.file_blocks.proofs.SeenLemmas.{length-seen}
use Rattle.file_blocks.proofs.store.FileBlocksBlockStore.count.Goals as goal

pub returns-clause-blocks : goal.returns-clause-blocks
returns-clause-blocks g c =
    let store = c.args.self.now in
    sym (length-seen store.count store.gathered.first store.gathered.count
    (g.F.RunFile.held store.file) store.gathered.octets.items store.gathered_within)

pub returns-clause-heads : goal.returns-clause-heads
returns-clause-heads g c =
    let store = c.args.self.now in
    length-blocks_of (head_blocks store.count)
    (drop (store.count * BLOCK_OCTETS) (g.F.RunFile.held store.file))
    ∙ sym (ap head_blocks (length-seen store.count store.gathered.first store.gathered.count
    (g.F.RunFile.held store.file) store.gathered.octets.items store.gathered_within))
