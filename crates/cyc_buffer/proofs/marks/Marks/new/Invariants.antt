use Rattle.std.proofs.Common.{◌≡◌, replicate}
use Rattle.std.specs.Prelude.{vec_capacity}
use Rattle.cyc_buffer.proofs.marks.Marks.new.Given as goal

-- the words so far are zeros, and room was taken for all of them alone
abbrev pub invariant-loop-word : goal.invariant-loop-word
invariant-loop-word l =
    (l.words.items ≡ replicate l._word 0) × (vec_capacity l.words ≡ l.count)
