use Rattle.std.proofs.Common.{◌≡◌, None}
use Rattle.article_verdict.specs.Config.{terms_of}
use Rattle.live_session.specs.Carried.{carried}
use Rattle.live_session.specs.Commands.{WasLetIn, newest_in}
use Rattle.live_session.specs.Counts.{turns_in}
use Rattle.live_session.specs.Turns.{Conversed}
use Rattle.live_session.proofs.serve.converse.Given as goal

abbrev pub invariant-loop : goal.invariant-loop
invariant-loop g l = record {
  conversed : Conversed (terms_of l.context.config.now) (g.G.Gate.refuses l.context.gate.now)
      l.context.channels.now l.fn.talk.live l.talk.live
      (carried (g.H.Hears.heard l.fn.talk.wire.reader) (g.W.Says.said l.fn.talk.wire.writer)
      l.fn.talk.wire.outbox l.fn.talk.wire.finish)
      (carried (g.H.Hears.heard l.talk.wire.reader) (g.W.Says.said l.talk.wire.writer)
      l.talk.wire.outbox l.talk.wire.finish);
  turns : turns_in l.talk.counts ≡ l.counter;
  newest : l.talk.wire.finish ≡ None
      → WasLetIn (g.G.Gate.admits l.context.gate.now) (newest_in l.commands);
}
