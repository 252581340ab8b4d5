use Rattle.std.proofs.Common.{arith, sym, ◌∙◌}
use Rattle.std.proofs.lemmas.Bool.{lt-ltb}
use Rattle.std.proofs.lemmas.Nat.{one_shl}
use Rattle.cyc_buffer.proofs.MarkLemmas.{bit_below}
use Rattle.cyc_buffer.proofs.marks.below.Goals as goal

pub returns-then-count-lt-WORD_BLOCKS : goal.returns-then-count-lt-WORD_BLOCKS
returns-then-count-lt-WORD_BLOCKS c i h =
    rw (one_shl c.args.count 64 c.if-count-lt-WORD_BLOCKS.true) (bit_below c.args.count i)

pub returns-else-count-lt-WORD_BLOCKS : goal.returns-else-count-lt-WORD_BLOCKS
returns-else-count-lt-WORD_BLOCKS c i h =
    bit_below 64 i ∙ lt-ltb i 64 h
    ∙ sym (lt-ltb i c.args.count (omega (arith, h, c.if-count-lt-WORD_BLOCKS.false)))
