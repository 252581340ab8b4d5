use Rattle.std.proofs.Common.{◌∙◌, ◌==◌}
use Rattle.std.specs.Int.{bit_at}
use Rattle.cyc_buffer.proofs.MarkLemmas.{clear_at, set_at, or_among, and_not_among}
use Rattle.cyc_buffer.proofs.marks.change_bits.Goals as goal

pub returns-then-value : goal.returns-then-value
returns-then-value c i h =
    rw c.if-value.true (set_at c.args.word c.args.mask i
    ∙ or_among (bit_at c.args.word i == 1) (bit_at c.args.mask i == 1))

pub returns-else-value : goal.returns-else-value
returns-else-value c i h =
    rw c.if-value.false (clear_at c.args.word c.args.mask i c.ranges.mask.fits h
    ∙ and_not_among (bit_at c.args.word i == 1) (bit_at c.args.mask i == 1))
