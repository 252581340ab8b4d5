use Rattle.relay_report.proofs.Lines.{all_lines, one_line}
use Rattle.relay_report.specs.Figures.{feed_view}
use Rattle.relay_report.specs.Text.{feed_line}
use Rattle.relay_report.proofs.text.put_feeds.Goals as goal

-- one line more
pub loop-feed-preserved : goal.loop-feed-preserved
loop-feed-preserved c =
    one_line feed_line feed_view c.args.text.now.items c.loop-feed.text.items
    c.put_feed.new.text.items c.args.feeds.now c.loop-feed.feed-index c.feed-item.result
    c.loop-feed-test.true c.feed-item.is c.loop-feed.invariant c.in_ok-put_feed.ensures

-- that was the last
pub returns : goal.returns
returns c =
    all_lines feed_line feed_view c.args.text.now.items c.loop-feed.text.items
    c.args.feeds.now c.loop-feed.feed-index c.loop-feed-test.false c.loop-feed.invariant
