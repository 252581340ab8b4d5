use Rattle.std.proofs.Common.{None}
use Rattle.names_laws.proofs.Under.{feed_at, under_none}
use Rattle.names_laws.proofs.feeds.feed_is_new.Goals as goal

pub returns : goal.returns
returns c known own rings kept name i ring at size nowhere =
    feed_at known own rings kept name i ring None at size
    (under_none name known.feeds kept.feeds nowhere)
