use Rattle.std.proofs.Common.{◌∙◌, ◌+◌, ap, arith, map, refl}
use Rattle.std.proofs.lemmas.List.{map_push, take_all, take_more}
use Rattle.feed_queue.specs.Feeds.{ring_size}
use Rattle.relay_core.proofs.desks.rings.Goals as goal

-- there is room for the next
pub push_reserved-requires : goal.push_reserved-requires
push_reserved-requires c = omega (
  arith,
  c.loop-feed-test.true,
  c.loop-feed.invariant.count,
  c.loop-feed.invariant.room,
)

-- no ring yet
pub loop-feed-init : goal.loop-feed-init
loop-feed-init c = record {
  count = omega (arith, c.in_ok-rings.ensures.len);
  room = omega (arith, c.in_ok-rings.ensures.capacity);
  said = c.in_ok-rings.ensures.items;
}

-- one ring more
pub loop-feed-preserved : goal.loop-feed-preserved
loop-feed-preserved c = record {
  count = c.push_reserved.ensures.len ∙ ap (λ n. n + 1) c.loop-feed.invariant.count;
  room = omega (arith, c.push_reserved.ensures.capacity, c.loop-feed.invariant.room);
  said = rw (
    c.push_reserved.ensures.items,
    take_more c.args.feeds.now c.loop-feed.feed-index c.feed-item.result c.loop-feed-test.true,
    ← c.feed-item.is,
    map_push,
    c.loop-feed.invariant.said,
  ) refl;
}

-- that was the last
pub returns : goal.returns
returns c =
    c.loop-feed.invariant.said
    ∙ ap (map ring_size) (take_all c.loop-feed.feed-index c.args.feeds.now
    (omega (arith, c.loop-feed-test.false)))
