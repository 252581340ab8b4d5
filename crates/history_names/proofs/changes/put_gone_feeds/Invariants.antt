use Rattle.std.proofs.Common.{◌≡◌, ◌++◌, flat_map, length, map}
use Rattle.history_names.specs.Changes.{ended, gone_feeds}
use Rattle.id_history.specs.Views.{feed_view}
use Rattle.history_names.proofs.changes.put_gone_feeds.Given as goal

-- the lines of the feeds that are left make up what is to be there
abbrev pub invariant-loop-name : goal.invariant-loop-name
invariant-loop-name l =
    l.out.items ++ flat_map ended (gone_feeds l.own l.names (map feed_view l.left))
    ≡ l.fn.out.items ++ flat_map ended (gone_feeds l.own l.known (map feed_view l.feeds))

-- the feeds that are left
abbrev pub decreases-loop-name : goal.decreases-loop-name
decreases-loop-name l = length l.names
