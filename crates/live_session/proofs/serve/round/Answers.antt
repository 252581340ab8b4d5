use Rattle.std.proofs.Common.{◌≡◌, ◌∙◌, ◌<◌, ℕ, ap, arith, inr, length, refl, subst, sym}
use Rattle.std.specs.Global.{Vec}
use Rattle.article_verdict.specs.Config.{terms_of}
use Rattle.live_jobs.specs.Seats.{IsSeatOf, end_of}
use Rattle.live_jobs.specs.declared.session.SessionSeat.{SessionSeat}
use Rattle.live_session.proofs.Carrying.{lasts_broken, lasts_on, stopped_for, stopped_over}
use Rattle.live_session.proofs.Differs.{held-spent, memory-held, rests-held, says-held}
use Rattle.live_session.proofs.LiveSessions.{served_still, served_turn, then_on, then_same}
use Rattle.live_session.proofs.serve.round.Goals as goal
use Rattle.live_session.specs.Carried.{carried}
use Rattle.live_session.specs.Counts.{most_waiting}
use Rattle.live_session.specs.Turns.{HadRound}
use Rattle.live_session.specs.declared.wire.Finish.TheVariants as finishes

-- where nothing waits, it is little
none_waits : (n : ℕ) → n ≡ 0 → n < most_waiting
none_waits n none = omega (arith, none)

pub returns-in-Says : goal.returns-in-Says
returns-in-Says g c =
    let w = terms_of c.args.context.now.config.now in
    let live = c.args.talk.now.live in
    let new = c.turn.new.live in
    let wire = c.args.talk.now.wire in
    let said = c.say.new.talk.wire in
    let last = c.write_on.new.wire in
    let before = carried (g.H.Hears.heard wire.reader) (g.W.Says.said wire.writer) wire.outbox
    wire.finish in
    let mid = carried (g.H.Hears.heard said.reader) (g.W.Says.said said.writer) said.outbox
    said.finish in
    let after = carried (g.H.Hears.heard last.reader) (g.W.Says.said last.writer) last.outbox
    last.finish in
    subst (λ l. HadRound w (g.G.Gate.refuses c.args.context.now.gate.now)
    (g.G.Gate.admits c.args.context.now.gate.now) c.args.context.now.channels.now live l before
    after c.args.talk.now.counts c.say.new.talk.counts c.turn.new.commands)
    (sym c.say.ensures.live)
    (record {
      conversed = record {
        seat = c.turn.ensures.seat;
        end = c.turn.ensures.end;
        served = then_same w live new before mid after
            (served_turn w live new c.in-Says.said.items before mid c.in-Says.ensures.went
            c.say.ensures.on)
            c.write_on.ensures.same;
        ends = lasts_on wire.finish said.finish last.finish c.say.ensures.ends
            c.write_on.ensures.ends;
      };
      turns = c.say.ensures.turns;
      newest = λ _. c.in-Says.ensures.newest (says-held c.in-Says.said);
      waiting = λ few. c.write_on.ensures.few;
    })

pub returns-in-Rests : goal.returns-in-Rests
returns-in-Rests g c =
    let w = terms_of c.args.context.now.config.now in
    let live = c.args.talk.now.live in
    let mid = c.turn.new.live in
    let wire = c.args.talk.now.wire in
    let flushed = c.flush.new.wire in
    let last = c.receive.new.talk.wire in
    let before = carried (g.H.Hears.heard wire.reader) (g.W.Says.said wire.writer) wire.outbox
    wire.finish in
    let between = carried (g.H.Hears.heard flushed.reader) (g.W.Says.said flushed.writer)
    flushed.outbox flushed.finish in
    let after = carried (g.H.Hears.heard last.reader) (g.W.Says.said last.writer) last.outbox
    last.finish in
    let P : SessionSeat → Type 0 = λ s. IsSeatOf c.args.context.now.channels.now s in
    record {
      conversed = record {
        seat = subst P (sym c.receive.ensures.seat) c.turn.ensures.seat;
        end = ap end_of c.receive.ensures.seat ∙ c.turn.ensures.end;
        served = then_on w live mid c.receive.new.talk.live before between after
            (served_still w live mid c.in-Rests.ensures.went before between c.flush.ensures.same)
            (c.receive.ensures.served w);
        ends = lasts_on wire.finish flushed.finish last.finish c.flush.ensures.ends
            c.receive.ensures.ends;
      };
      turns = c.receive.ensures.turns ∙ c.tell.ensures.rest.1;
      newest = λ _. c.in-Rests.ensures.newest rests-held;
      waiting = λ few. none_waits _ (ap length c.receive.ensures.waiting
          ∙ ap length c.flush.ensures.none);
    }

-- the gate said no
pub returns-in-Held : goal.returns-in-Held
returns-in-Held g c =
    let wire = c.args.talk.now.wire in
    let last = c.stop.new.wire in
    record {
      conversed = record {
        seat = c.turn.ensures.seat;
        end = c.turn.ensures.end;
        served = served_still (terms_of c.args.context.now.config.now) c.args.talk.now.live
            c.turn.new.live c.in-Held.ensures.went
            (carried (g.H.Hears.heard wire.reader) (g.W.Says.said wire.writer) wire.outbox
            wire.finish)
            (carried (g.H.Hears.heard last.reader) (g.W.Says.said last.writer) last.outbox
            last.finish)
            c.stop.ensures.same;
        ends = record {
          ended = λ none. absurd (stopped_over wire.finish last.finish finishes.Held
              c.stop.ensures.finish none);
          unspent = stopped_for wire.finish last.finish finishes.Held finishes.TurnsSpent held-spent
              c.stop.ensures.finish;
          held = λ held. inr (c.in-Held.ensures.held refl);
        };
      };
      turns = refl;
      newest = λ none. absurd (stopped_over wire.finish last.finish finishes.Held
          c.stop.ensures.finish none);
      waiting = subst (λ (o : Vec ℕ). length wire.outbox.items < most_waiting
          → length o.items < most_waiting) (sym c.stop.ensures.waiting) (λ few. few);
    }

pub returns-in-Memory : goal.returns-in-Memory
returns-in-Memory g c =
    let w = terms_of c.args.context.now.config.now in
    let live = c.args.talk.now.live in
    let new = c.turn.new.live in
    let wire = c.args.talk.now.wire in
    let flushed = c.flush-in-Memory.new.wire in
    let last = c.stop-in-Memory.new.wire in
    let before = carried (g.H.Hears.heard wire.reader) (g.W.Says.said wire.writer) wire.outbox
    wire.finish in
    let between = carried (g.H.Hears.heard flushed.reader) (g.W.Says.said flushed.writer)
    flushed.outbox flushed.finish in
    let after = carried (g.H.Hears.heard last.reader) (g.W.Says.said last.writer) last.outbox
    last.finish in
    record {
      conversed = record {
        seat = c.turn.ensures.seat;
        end = c.turn.ensures.end;
        served = then_same w live new before between after
            (served_still w live new c.in-Memory.ensures.went before between
            c.flush-in-Memory.ensures.same)
            c.stop-in-Memory.ensures.same;
        ends = lasts_on wire.finish flushed.finish last.finish c.flush-in-Memory.ensures.ends
            (lasts_broken flushed.finish last.finish c.stop-in-Memory.ensures.finish);
      };
      turns = refl;
      newest = λ _. c.in-Memory.ensures.newest memory-held;
      waiting = λ few. none_waits _
          (ap (λ (o : Vec ℕ). length o.items) c.stop-in-Memory.ensures.waiting
          ∙ ap length c.flush-in-Memory.ensures.none);
    }
