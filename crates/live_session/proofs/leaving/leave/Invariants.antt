use Rattle.article_verdict.specs.Config.{terms_of}
use Rattle.live_session.specs.Carried.{carried}
use Rattle.live_session.specs.Turns.{HadLastTurn}
use Rattle.live_session.proofs.leaving.leave.Given as goal

abbrev pub invariant-loop : goal.invariant-loop
invariant-loop g l =
    HadLastTurn (terms_of l.context.config.now) l.context.channels.now l.fn.talk.live l.talk.live
    (carried (g.H.Hears.heard l.fn.talk.wire.reader) (g.W.Says.said l.fn.talk.wire.writer)
    l.fn.talk.wire.outbox l.fn.talk.wire.finish)
    (carried (g.H.Hears.heard l.talk.wire.reader) (g.W.Says.said l.talk.wire.writer)
    l.talk.wire.outbox l.talk.wire.finish)
    l.fn.talk.counts l.talk.counts
