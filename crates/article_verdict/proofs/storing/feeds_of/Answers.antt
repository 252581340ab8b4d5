use Rattle.std.proofs.Common.{subst, sym, take}
use Rattle.feed_queue.specs.Permission.{HasFeeds}
use Rattle.article_verdict.proofs.FewFeeds.{has_feeds}
use Rattle.article_verdict.specs.Config.{terms_of}
use Rattle.article_verdict.proofs.storing.feeds_of.Goals as goal

-- no feed of a configuration is without a number
pub returns : goal.returns
returns c =
    let config = c.args.config.now in
    c.in_ok-numbers.ensures (terms_of config)
    (subst (λ peers. HasFeeds (terms_of config) peers (take 65536 c.deref-2.result.now))
    (sym c.deref.ensures.value)
    (subst (λ feeds. HasFeeds (terms_of config) config.relay.peers.items (take 65536 feeds))
    (sym c.deref-2.ensures.value) (has_feeds config)))
