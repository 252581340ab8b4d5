use Rattle.std.proofs.Common.{◌≡◌, ◌++◌, None, drop, map}
use Rattle.std.specs.Prelude.{filter_map}
use Rattle.buffer_ages.specs.Text.{kept_after, mark_said}
use Rattle.buffer_ages.proofs.reading.marks_of.Given as goal

-- the marks so far stand before those that are left
abbrev pub invariant-loop-line : goal.invariant-loop-line
invariant-loop-line l =
    l.marks.items
    ++ kept_after l.last
    (filter_map (mark_said l.name) (map (λ line. line.now) (drop l.line-index l.lines)))
    ≡ kept_after None (filter_map (mark_said l.name) (map (λ line. line.now) l.lines))
