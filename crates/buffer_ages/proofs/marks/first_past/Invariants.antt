use Rattle.std.proofs.Common.{◌≡◌, drop}
use Rattle.buffer_ages.specs.Marks.{first_past}
use Rattle.buffer_ages.proofs.marks.first_past.Given as goal

-- none of the marks so far is past the place
abbrev pub invariant-loop-mark : goal.invariant-loop-mark
invariant-loop-mark l = first_past l.place (drop l.mark-index l.marks) ≡ first_past l.place l.marks
