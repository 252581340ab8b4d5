use Rattle.std.proofs.Common.{◌≡◌, ◌<◌, ℕ, false, true}
use Rattle.cyc_buffer.specs.Marks.{is_marked}
use Rattle.cyc_buffer.proofs.buffer_state.BufferState.end_of.Given as goal

-- each block so far is kept, and no other article begins at one
abbrev pub invariant-loop-end : goal.invariant-loop-end
invariant-loop-end l = record {
  inside : (j : ℕ) → l.first < j → j < l.end → is_marked l.self.kept.words.items j ≡ true;
  clear : (j : ℕ) → l.first < j → j < l.end → is_marked l.self.starts.words.items j ≡ false;
}
