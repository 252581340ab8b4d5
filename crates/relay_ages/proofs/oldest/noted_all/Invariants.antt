use Rattle.std.proofs.Common.{◌≡◌, ◌++◌, drop, map}
use Rattle.buffer_ages.specs.Views.{ages_view}
use Rattle.relay_ages.specs.Ages.{noted_all}
use Rattle.relay_ages.proofs.oldest.noted_all.Given as goal

-- the marks so far stand before those that are left
abbrev pub invariant-loop-one : goal.invariant-loop-one
invariant-loop-one l =
    map ages_view l.now.items ++ noted_all l.moment (drop l.one-index l.ages) l.others l.left
    ≡ noted_all l.moment l.ages l.fn.buffers l.fn.figures
