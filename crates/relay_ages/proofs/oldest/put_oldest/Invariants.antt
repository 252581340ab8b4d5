use Rattle.std.proofs.Common.{◌≡◌, ◌++◌, drop}
use Rattle.relay_ages.specs.Ages.{oldest_text}
use Rattle.relay_ages.proofs.oldest.put_oldest.Given as goal

-- the lines so far stand before those that are left
abbrev pub invariant-loop-one : goal.invariant-loop-one
invariant-loop-one l =
    l.text.items ++ oldest_text (drop l.one-index l.ages) l.others l.left
    ≡ l.fn.text.items ++ oldest_text l.ages l.fn.buffers l.fn.figures
