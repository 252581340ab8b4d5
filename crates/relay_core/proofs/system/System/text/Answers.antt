use Rattle.std.proofs.Common.{arith, refl, ◌∙◌}
use Rattle.article_verdict.proofs.FewFeeds.{few_feeds}
use Rattle.id_history.specs.Views.{history_view}
use Rattle.relay_core.proofs.Stops.{few_groups, tells_written}
use Rattle.relay_core.proofs.system.System.text.Goals as goal

-- no peer has two feeds
pub kept_feeds-requires : goal.kept_feeds-requires
kept_feeds-requires g c = omega (
  arith,
  few_feeds c.args.self.now.config,
  c.len-2.ensures,
  c.args.self.now.config.relay.feeds.ok,
)

-- there aren't too many parts for a text
pub write-text-requires : goal.write-text-requires
write-text-requires g c = record {
  groups = few_groups c.if-len-gt-GROUP_LIMIT.false
      (c.len.ensures ∙ c.in_ok-positions.positions.ok.0);
  feeds = c.in_ok-feeds.ensures.room.0;
  waiting = c.in_ok-feeds.ensures.room.1;
}

-- the text is that of its parts
pub returns : goal.returns
returns g c =
    tells_written c.args.self.now c.args.stop c.write-text.result
    (history_view (record {
      stop = c.args.stop;
      newest = c.unwrap_or.result;
      positions = c.in_ok-positions.positions;
      feeds = c.in_ok-feeds.feeds;
      ids = c.in_ok-ids.ids;
    }))
    c.len-2.result c.in_ok-feeds.feeds.items c.write-text.ensures.fits c.write-text.ensures.octets
    refl c.unwrap_or.ensures c.in_ok-positions.ensures refl
    (c.len-2.ensures ∙ c.args.self.now.config.relay.feeds.ok.0) c.in_ok-feeds.ensures.left
    c.in_ok-ids.ensures.lasting
