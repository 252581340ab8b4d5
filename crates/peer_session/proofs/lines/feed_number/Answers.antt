use Rattle.std.proofs.Common.{arith}
use Rattle.article_verdict.proofs.FewFeeds.{few_feeds}
use Rattle.peer_session.proofs.lines.feed_number.Goals as goal

pub overflow_cast-result : goal.overflow_cast-result
overflow_cast-result c =
    omega (arith, few_feeds c.args.config.now, c.in_ok-place.ensures.within)
