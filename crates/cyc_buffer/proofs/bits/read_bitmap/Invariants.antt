use Rattle.std.proofs.Common.{◌≡◌, ◌<◌, ◌≤◌, ◌+◌, ◌*◌, ℕ, length, false}
use Rattle.news_terms.specs.HeadBlocks.{bits_of_block}
use Rattle.cyc_buffer.specs.Marks.{is_marked}
use Rattle.cyc_buffer.specs.Reads.{StaysHeld}
use Rattle.cyc_buffer.specs.Stopped.{has_bit}
use Rattle.cyc_buffer.proofs.bits.read_bitmap.Given as goal

-- the marks so far are the bits so far, and the store holds what it held
abbrev pub invariant-loop-i : goal.invariant-loop-i
invariant-loop-i g l =
    StaysHeld g.S.BlockStore l.initial.store l.store
    × (g.S.BlockStore.failures l.store ≡ g.S.BlockStore.failures l.initial.store)
    × (length l.starts.words.items ≡ length l.initial.starts.words.items)
    × (g.S.BlockStore.honest l.initial.store → (j : ℕ) → j < bits_of_block * l.i → j < l.blocks
    → is_marked l.starts.words.items j ≡ has_bit (g.S.BlockStore.heads l.initial.store) j)
    × (g.S.BlockStore.honest l.initial.store → (j : ℕ) → l.blocks ≤ j → j < bits_of_block * l.i
    → has_bit (g.S.BlockStore.heads l.initial.store) j ≡ false)
    × (g.S.BlockStore.calls l.store ≡ g.S.BlockStore.calls l.initial.store + l.i)
