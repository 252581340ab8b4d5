use Rattle.std.proofs.Common.{◌≡◌, ◌<◌, ◌≤◌, ℕ, false}
use Rattle.cyc_buffer.specs.Marks.{is_marked}
use Rattle.cyc_buffer.proofs.marks.Marks.are_clear.Given as goal

-- none of the blocks so far is marked
abbrev pub invariant-loop-block : goal.invariant-loop-block
invariant-loop-block l =
    (j : ℕ) → l.from ≤ j → j < l.block → is_marked l.self.words.items j ≡ false
