use Rattle.std.proofs.Common.{arith}
use Rattle.cyc_token.specs.Token.{token_view}
use Rattle.feed_queue.specs.Feeds.{with_gained}
use Rattle.feed_queue.proofs.DeskLemmas.{keeps-at, keeps-missing, below-at}
use Rattle.feed_queue.proofs.desk.FeedDesk.gain.Goals as goal

-- the ring of the feed gains the token
pub returns-then-place-len-clause-keeps : goal.returns-then-place-len-clause-keeps
returns-then-place-len-clause-keeps c sizes feeds below keeps =
    keeps-at _ sizes feeds _ c.args.feed _ _
    (with_gained (feeds c.args.feed) (token_view c.args.token))
    c.from-place.ensures (omega arith) c.index_mut.ensures.value
    (c.gain.ensures.keeps _ _ (below-at _ _ _ _ (omega arith) c.index_mut.ensures.value below))
    keeps

-- there is no ring
pub returns-else-place-len-clause-keeps : goal.returns-else-place-len-clause-keeps
returns-else-place-len-clause-keeps c sizes feeds below keeps =
    keeps-missing _ sizes feeds c.args.feed _ (omega arith) keeps
