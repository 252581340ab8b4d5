use Rattle.std.proofs.Common.{◌≡◌, ◌++◌, flat_map, take}
use Rattle.buffer_ages.specs.Text.{mark_octets}
use Rattle.buffer_ages.proofs.writing.push_marks.Given as goal

-- the lines of the marks so far are put
abbrev pub invariant-loop-mark : goal.invariant-loop-mark
invariant-loop-mark l =
    l.text.items ≡ l.fn.text.items ++ flat_map (mark_octets l.name) (take l.mark-index l.marks)
