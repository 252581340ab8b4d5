use Rattle.std.proofs.Common.{◌∙◌, ap, sym, subst}
use Rattle.article_verdict.specs.Config.{terms_of}
use Rattle.live_jobs.specs.Seats.{IsSeatOf, end_of}
use Rattle.live_jobs.specs.declared.session.SessionSeat.{SessionSeat}
use Rattle.live_session.proofs.Carrying.{held_by, never_ended, refused_by, spent_by}
use Rattle.live_session.proofs.LiveSessions.{then_on, then_same}
use Rattle.live_session.proofs.serve.serve_through.Goals as goal
use Rattle.live_session.specs.Carried.{LastsOrHeld, carried}

pub leave-requires-clause-seat : goal.leave-requires-clause-seat
leave-requires-clause-seat g c =
    let P : SessionSeat → Type 0 = λ s. IsSeatOf c.args.context.now.channels.now s in
    subst P (sym c.break_off.ensures.seat) c.converse.ensures.conversed.seat

pub returns : goal.returns
returns g c =
    let w = terms_of c.args.context.now.config.now in
    let live = c.args.talk.now.live in
    let new = c.leave.new.talk.live in
    let wire = c.args.talk.now.wire in
    let one = c.converse.new.talk.wire in
    let two = c.leave.new.talk.wire in
    let flushed = c.flush.new.wire.finish in
    let last = c.stop.new.wire in
    let begins = carried (g.H.Hears.heard wire.reader) (g.W.Says.said wire.writer) wire.outbox
    wire.finish in
    let conversed = carried (g.H.Hears.heard one.reader) (g.W.Says.said one.writer) one.outbox
    one.finish in
    let left = carried (g.H.Hears.heard two.reader) (g.W.Says.said two.writer) two.outbox
    two.finish in
    let over = carried (g.H.Hears.heard last.reader) (g.W.Says.said last.writer) last.outbox
    last.finish in
    let turns = c.converse.ensures.conversed in
    let leaves = c.leave.ensures.turned in
    let ends = subst (λ o. LastsOrHeld (g.G.Gate.refuses c.args.context.now.gate.now) o one.finish)
    c.requires.begun turns.ends in
    record {
      seat = leaves.seat;
      end = leaves.end ∙ ap end_of c.break_off.ensures.seat ∙ turns.end;
      served = then_same w live new begins left over
          (then_on w live c.converse.new.talk.live new begins conversed left turns.served
          (then_on w c.converse.new.talk.live c.break_off.new.live new conversed conversed left
          (c.break_off.ensures.gone w conversed) leaves.served))
          (λ came replies parted carries. c.stop.ensures.same came replies parted
          (c.flush.ensures.same came replies parted carries));
      closed = c.leave.ensures.closed;
      waiting = ap (λ v. v.items) c.stop.ensures.waiting ∙ c.flush.ensures.none;
      ended = c.stop.ensures.ended;
      spent = λ is. c.tell.ensures.rest.1 ∙ leaves.turns ∙ c.converse.ensures.turns
          (never_ended one.finish two.finish flushed ends leaves.ends c.flush.ensures.ends
          (spent_by flushed last.finish c.stop.ensures.finish is));
      held = λ is. refused_by one.finish two.finish flushed ends leaves.ends c.flush.ensures.ends
          (held_by flushed last.finish c.stop.ensures.finish is);
    }
