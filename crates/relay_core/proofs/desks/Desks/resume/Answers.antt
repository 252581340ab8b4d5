use Rattle.std.proofs.Common.{ℕ, List, map, subst}
use Rattle.feed_queue.specs.Feeds.{KeepsFeeds, ring_size}
use Rattle.feed_queue.specs.Left.{AreLeft}
use Rattle.id_history.specs.Views.{feed_view}
use Rattle.id_history.specs.declared.kept.KeptFeed.{KeptFeed}
use Rattle.relay_conf.specs.declared.relay.Feed as conf
use Rattle.relay_model.specs.State.{Feed}
use Rattle.relay_core.proofs.desks.Desks.resume.Goals as goal

-- each part is made of its own
pub returns : goal.returns
returns c =
    let D : List conf.Feed → List KeptFeed → Type 0 = λ fs ks. (feed : ℕ → Feed)
    → AreLeft (map feed_view ks) (map ring_size fs) feed
    → KeepsFeeds c.in_ok-desk.desk (map ring_size fs) feed in
    record {
      claims = c.in_ok-shards.ensures;
      desk = subst (λ fs. D fs c.args.history.feeds.items) c.deref.ensures.value
          (subst (λ ks. D c.deref.result.now ks) c.deref-2.ensures.value c.in_ok-desk.ensures);
      group_writers = c.in_ok-group_writers.ensures;
      expirer = c.in_ok-expirer.ensures;
    }
