use Rattle.std.proofs.Common.{◌∙◌, ap, length, sym}
use Rattle.std.proofs.lemmas.List.{length-map}
use Rattle.feed_queue.specs.Feeds.{ring_size}
use Rattle.article_verdict.proofs.FewFeeds.{few_feeds}
use Rattle.relay_live.proofs.Rooms.{no_more}
use Rattle.relay_live.proofs.alone.Alone.over.Goals as goal

pub invariant_of-result : goal.invariant_of-result
invariant_of-result g c = record {
  sixteen = c.args.desks.sixteen;
  as_many = c.args.desks.as_many;
  gained = c.args.desks.gained;
  few = no_more _ _ _ (c.in-Ok.ensures.opened.count ∙ sym c.args.started.buffers.ok.0)
      c.args.started.few;
  few_placed_groups = c.requires.few;
  few_feeds = no_more _ _ _ (c.len.ensures ∙ c.args.config.now.relay.feeds.ok.0)
      (few_feeds c.args.config.now);
  ring_each = ap length c.requires.rings
      ∙ length-map c.args.config.now.relay.feeds.items ring_size
      ∙ sym (c.len.ensures ∙ c.args.config.now.relay.feeds.ok.0);
}
