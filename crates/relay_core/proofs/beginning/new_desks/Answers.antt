use Rattle.std.proofs.Common.{◌∙◌, ℕ, List, map, subst}
use Rattle.feed_queue.specs.Feeds.{KeepsFeeds, no_feed, ring_size}
use Rattle.relay_conf.specs.declared.relay.Feed.{Feed}
use Rattle.relay_core.specs.Beginning.{AreIdle}
use Rattle.relay_core.proofs.beginning.new_desks.Goals as goal

-- each part is new
pub returns : goal.returns
returns g c = record {
  claims = c.in_ok-shards.ensures;
  desk = subst (λ (fs : List Feed). KeepsFeeds c.in_ok-desk.desk (map ring_size fs) (λ f. no_feed))
      c.deref.ensures.value c.in_ok-desk.ensures;
  group_writers = subst (λ (n : ℕ). AreIdle n c.in_ok-group_writers.group_writers.items)
      (c.len.ensures ∙ c.args.config.now.buffers.groups.ok.0) c.in_ok-group_writers.ensures;
  expirer = c.in_ok-expirer.ensures;
}
