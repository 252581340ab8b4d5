use Rattle.std.proofs.Common.{◌≡◌, ◌*◌, nat_lt, length, cond, ℕ}
use Rattle.cyc_buffer.specs.Marks.{is_marked, marked_after}
use Rattle.cyc_buffer.proofs.marks.Marks.change.Given as goal

-- the marks of the words so far are changed, and those of the others are not
abbrev pub invariant-loop-word : goal.invariant-loop-word
invariant-loop-word l = record {
  marks : (j : ℕ) → is_marked l.self.words.items j
      ≡ cond (nat_lt j (64 * l.word))
      (marked_after l.from l.to l.value j (is_marked l.fn.self.words.items j))
      (is_marked l.fn.self.words.items j);
  length : length l.self.words.items ≡ length l.fn.self.words.items;
}
