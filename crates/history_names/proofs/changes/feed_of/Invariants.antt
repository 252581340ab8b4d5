use Rattle.std.proofs.Common.{◌≡◌, length, map}
use Rattle.history_names.specs.Changes.{feed_of}
use Rattle.id_history.specs.Views.{feed_view}
use Rattle.history_names.proofs.changes.feed_of.Given as goal

-- it is the first of those that are left
abbrev pub invariant-loop-other : goal.invariant-loop-other
invariant-loop-other l =
    feed_of l.others (map feed_view l.left) l.name
    ≡ feed_of l.names (map feed_view l.feeds) l.name

-- the names that are left
abbrev pub decreases-loop-other : goal.decreases-loop-other
decreases-loop-other l = length l.others
