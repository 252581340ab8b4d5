use Rattle.std.proofs.Common.{ap, arith, length}
use Rattle.std.proofs.lemmas.List.{length-map}
use Rattle.article_verdict.proofs.FewFeeds.{few_feeds}
use Rattle.feed_queue.specs.Feeds.{ring_size}
use Rattle.relay_repair.proofs.shutting.tell_texts.Goals as goal

-- there are at most 256 groups and 1,024 feeds
pub write-text-requires : goal.write-text-requires
write-text-requires c =
    c.in_ok-history.ensures.room (omega arith)
    (omega (
      arith,
      c.deref-3.ensures,
      ap length c.in_ok-sizes.ensures,
      length-map c.deref.result.now ring_size,
      ap length c.deref.ensures.value,
      few_feeds c.args.config.now,
    ))
