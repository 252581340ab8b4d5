-- The octets are those of the block.
use Rattle.std.proofs.Common.{◌*◌, ◌+◌, ◌-◌, refl, arith}
use Rattle.file_blocks.proofs.RunLemmas.{got_block}
use Rattle.file_blocks.proofs.run.Run.get.Goals as goal

pub returns : goal.returns
returns c =
    let run = c.args.self.now in
    let index = c.args.k - run.first in
    got_block run.count index (index * 512) (index * 512 + 512 - index * 512)
    c.as_slice-all.result.now run.octets.items c.copy_from_slice.new.self
    (omega (arith, c.requires.0, c.requires.1)) refl (omega arith) c.as_slice-all.ensures.value
    c.copy_from_slice.ensures.after
