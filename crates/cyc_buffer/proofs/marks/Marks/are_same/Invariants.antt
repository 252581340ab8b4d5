use Rattle.std.proofs.Common.{◌≡◌, ◌<◌, ℕ}
use Rattle.cyc_buffer.specs.Marks.{is_marked}
use Rattle.cyc_buffer.proofs.marks.Marks.are_same.Given as goal

-- the marks of the blocks so far are the same
abbrev pub invariant-loop-block : goal.invariant-loop-block
invariant-loop-block l =
    (j : ℕ) → j < l.block → is_marked l.self.words.items j ≡ is_marked l.other.words.items j
