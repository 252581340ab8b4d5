use Rattle.std.proofs.Common.{refl, subst, sym}
use Rattle.article_verdict.specs.Config.{terms_of}
use Rattle.live_session.proofs.Carrying.{lasts_same}
use Rattle.live_session.proofs.LiveSessions.{served_still, served_turn, unsaid}
use Rattle.live_session.proofs.leaving.last_turn.Goals as goal
use Rattle.live_session.specs.Carried.{carried}
use Rattle.live_session.specs.Going.{WentOn}
use Rattle.live_session.specs.Turns.{HadLastTurn}

-- the end of the session's seat is the same, and what was said is counted as a reply, not a turn
pub returns-in-Says : goal.returns-in-Says
returns-in-Says g c =
    let w = terms_of c.args.context.now.config.now in
    let live = c.args.talk.now.live in
    let new = c.turn-turned.new.live in
    let wire = c.args.talk.now.wire in
    let said = c.say.new.talk.wire in
    let before = carried (g.H.Hears.heard wire.reader) (g.W.Says.said wire.writer) wire.outbox
    wire.finish in
    let after = carried (g.H.Hears.heard said.reader) (g.W.Says.said said.writer) said.outbox
    said.finish in
    subst (λ l. HadLastTurn w c.args.context.now.channels.now live l before after
    c.args.talk.now.counts c.say.new.talk.counts) (sym c.say.ensures.live)
    (record {
      seat = c.turn-turned.ensures.seat;
      end = c.turn-turned.ensures.end;
      served = served_turn w live new c.in-Says.said.items before after c.in-Says.ensures.went
          c.say.ensures.on;
      ends = c.say.ensures.ends;
      turns = c.say.ensures.turns;
    })

pub returns-in-Rests : goal.returns-in-Rests
returns-in-Rests g c =
    let w = terms_of c.args.context.now.config.now in
    let live = c.args.talk.now.live in
    let wire = c.args.talk.now.wire in
    let same = carried (g.H.Hears.heard wire.reader) (g.W.Says.said wire.writer) wire.outbox
    wire.finish in
    record {
      seat = c.turn-turned.ensures.seat;
      end = c.turn-turned.ensures.end;
      served = served_still w live c.turn-turned.new.live
          (subst (λ said. WentOn w live said c.turn-turned.new.live)
          (unsaid c.turn-turned.result c.in-Rests.is) c.turn-turned.ensures.went) same same
          (λ came replies parted carries. carries);
      ends = lasts_same wire.finish;
      turns = refl;
    }

pub returns-in-Memory : goal.returns-in-Memory
returns-in-Memory g c =
    let wire = c.args.talk.now.wire in
    let same = carried (g.H.Hears.heard wire.reader) (g.W.Says.said wire.writer) wire.outbox
    wire.finish in
    record {
      seat = c.turn-turned.ensures.seat;
      end = c.turn-turned.ensures.end;
      served = served_still (terms_of c.args.context.now.config.now) c.args.talk.now.live
          c.turn-turned.new.live c.in-Memory.ensures.went same same
          (λ came replies parted carries. carries);
      ends = lasts_same wire.finish;
      turns = refl;
    }
