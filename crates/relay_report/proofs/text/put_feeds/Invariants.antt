use Rattle.std.proofs.Common.{◌≡◌, ◌++◌, flat_map, map, take}
use Rattle.relay_report.specs.Figures.{feed_view}
use Rattle.relay_report.specs.Text.{feed_line}
use Rattle.relay_report.proofs.text.put_feeds.Given as goal

-- the lines of those so far are put
abbrev pub invariant-loop-feed : goal.invariant-loop-feed
invariant-loop-feed l =
    l.text.items
    ≡ l.fn.text.items ++ flat_map feed_line (map feed_view (take l.feed-index l.feeds))
