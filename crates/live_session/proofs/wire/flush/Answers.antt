use Rattle.std.proofs.Common.{◌∙◌, sym}
use Rattle.live_session.proofs.Carrying.{flushed_part}
use Rattle.live_session.proofs.wire.flush.Goals as goal
use Rattle.live_session.specs.Carried.{carried}

pub returns-in-Err-clause-same : goal.returns-in-Err-clause-same
returns-in-Err-clause-same g c =
    let wire = c.args.wire.now in
    flushed_part
    (carried (g.H.Hears.heard wire.reader) (g.W.Says.said wire.writer) wire.outbox wire.finish)
    (sym c.is_broken.ensures ∙ c.if-is_broken.false) c.in-Err.field-0
    (g.W.Says.said c.say_all.new.writer) c.clear-in-Err.new.self.items c.in-Err.ensures.part
