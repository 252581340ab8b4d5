-- A head, a payload and the zeros behind it.
use Rattle.std.proofs.Common.{ℕ, ◌+◌, ◌-◌, length, arith, refl, ◌∙◌}
use Rattle.cyc_block.specs.declared.image.TheConstants.{HEAD_OCTETS}
use Rattle.cyc_block.proofs.Images.{written_image}
use Rattle.cyc_block.proofs.image.block_image.Goals as goal

pub returns : goal.returns
returns c =
    let used : ℕ = HEAD_OCTETS + length c.args.payload.now - HEAD_OCTETS in
    written_image c.args.stamp.now c.args.payload.now c.copy_from_slice-2.new.self
    c.copy_from_slice.new.self used
    (c.copy_from_slice-2.ensures.after ∙ c.head.ensures c.args.payload.now refl)
    c.copy_from_slice.ensures.after (omega arith)
