use Rattle.std.proofs.Common.{◌≡◌, ◌++◌, map, length}
use Rattle.relay_conf.specs.RelayDraft.{named_allow}
use Rattle.relay_conf.specs.RelayViews.{ranges_in}
use Rattle.relay_conf.specs.Words.{words}
use Rattle.relay_conf.proofs.reach.push_ranges.Given as goal

-- the ranges so far stand before those that are left
abbrev pub invariant-loop-word : goal.invariant-loop-word
invariant-loop-word l =
    l.allows.items ++ map (named_allow l.name) (ranges_in l.unread)
    ≡ l.fn.allows.items ++ map (named_allow l.name) (ranges_in l.text)

abbrev pub decreases-loop-word : goal.decreases-loop-word
decreases-loop-word l = length (words l.unread)
