use Rattle.std.proofs.Common.{[], subst}
use Rattle.live_session.proofs.wire.say.Goals as goal
use Rattle.live_session.specs.Carried.{CarriesOn, carried}

pub returns-clause-on : goal.returns-clause-on
returns-clause-on g c =
    let old = c.args.talk.now.wire in
    let new = c.put.new.wire in
    subst (CarriesOn
    (carried (g.H.Hears.heard old.reader) (g.W.Says.said old.writer) old.outbox old.finish)
    (carried (g.H.Hears.heard new.reader) (g.W.Says.said new.writer) new.outbox new.finish)
    [] c.args.said.items) c.has_parted.ensures c.put.ensures.on
