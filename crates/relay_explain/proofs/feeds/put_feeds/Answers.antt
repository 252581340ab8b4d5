use Rattle.std.proofs.Common.{◌∙◌, ◌<◌, ap, arith, get_or, length, map}
use Rattle.relay_explain.specs.Peers.{feed_text, feeds_text}
use Rattle.relay_explain.proofs.Told.{told_each, told_next}
use Rattle.relay_explain.proofs.Puts.{nothing}
use Rattle.relay_explain.proofs.feeds.put_feeds.Goals as goal

pub loop-feed-init : goal.loop-feed-init
loop-feed-init c = nothing _

pub loop-feed-preserved : goal.loop-feed-preserved
loop-feed-preserved c =
    let same = c.deref-feed-items.ensures.value in
    let there : c.loop-feed.feed-index < length c.args.relay.now.feeds.items =
    omega (arith, ap length same, c.loop-feed-test.true) in
    let one = c.feed-item.is
    ∙ ap (λ all. get_or all c.loop-feed.feed-index c.feed-item.result) same in
    told_next (feed_text c.args.relay.now (map (λ line. line.now) c.args.lines.now))
    c.args.relay.now.feeds.items
    c.loop-feed.feed-index c.feed-item.result there c.loop-feed.invariant
    (rw (← one) c.put_feed-text.ensures)

pub returns : goal.returns
unfolding feeds_text
returns c =
    told_each (feed_text c.args.relay.now (map (λ line. line.now) c.args.lines.now))
    c.args.relay.now.feeds.items
    c.loop-feed.feed-index
    (omega (arith, ap length c.deref-feed-items.ensures.value, c.loop-feed-test.false))
    c.loop-feed.invariant
