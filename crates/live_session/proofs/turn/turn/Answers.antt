use Rattle.std.proofs.Common.{[], ap, refl, subst, sym}
use Rattle.article_verdict.specs.Config.{terms_of}
use Rattle.live_jobs.specs.Seats.{IsSeatOf, end_of}
use Rattle.live_jobs.specs.declared.session.SessionSeat.{SessionSeat}
use Rattle.live_session.proofs.Differs.{held-says, memory-held, memory-says, rests-held}
use Rattle.live_session.proofs.Differs.{rests-says}
use Rattle.live_session.proofs.LiveSessions.{let_go, still}
use Rattle.live_session.proofs.turn.turn.Goals as goal
use Rattle.live_session.specs.Commands.{WasAsked}

-- memory was refused, and the session is as it was
pub returns-in_default : goal.returns-in_default
returns-in_default g c =
    let w = terms_of c.args.context.now.config.now in
    let live = c.args.live.now in
    record {
      seat = c.requires.seat;
      end = refl;
      went = still w live (record live { session = c.plan.new.self }) refl refl
          (record { number = refl; end_is = refl }) (c.in_default.ensures.err w);
      held = λ e. absurd (memory-held e);
      newest = λ _. c.requires.newest;
      asked = λ said e. absurd (memory-says said e);
    }

pub returns-then-is_resting : goal.returns-then-is_resting
returns-then-is_resting g c =
    let P : SessionSeat → Type 0 = λ s. IsSeatOf c.args.context.now.channels.now s in
    let w = terms_of c.args.context.now.config.now in
    let live = c.args.live.now in
    let planned = record live { session = c.plan.new.self } in
    record {
      seat = subst P (sym c.give_up.ensures.seat) c.requires.seat;
      end = ap end_of c.give_up.ensures.seat;
      went = let_go w live c.give_up.new.live c.in-Ok.step c.now-now.result planned planned []
          c.in-Ok.ensures.due
          (record { reads = refl; hands = refl; place = record { number = refl; end_is = refl } })
          (record { session = refl; reads = refl; hands = refl })
          (record { number = refl; end_is = refl }) c.give_up.ensures.gone c.give_up.ensures.rest;
      held = λ e. absurd (rests-held e);
      newest = λ _. c.requires.newest;
      asked = λ said e. absurd (rests-says said e);
    }

-- the gate says no to the command
pub returns-then-not-is_let_in : goal.returns-then-not-is_let_in
returns-then-not-is_let_in g c =
    let P : SessionSeat → Type 0 = λ s. IsSeatOf c.args.context.now.channels.now s in
    let w = terms_of c.args.context.now.config.now in
    let live = c.args.live.now in
    let planned = record live { session = c.plan.new.self } in
    let gone = c.give_up-then-not-is_let_in in
    record {
      seat = subst P (sym gone.ensures.seat) c.requires.seat;
      end = ap end_of gone.ensures.seat;
      went = let_go w live gone.new.live c.in-Ok.step c.now-now.result planned planned []
          c.in-Ok.ensures.due
          (record { reads = refl; hands = refl; place = record { number = refl; end_is = refl } })
          (record { session = refl; reads = refl; hands = refl })
          (record { number = refl; end_is = refl }) gone.ensures.gone gone.ensures.rest;
      held = λ _. c.is_let_in.ensures.no c.if-not-is_let_in.true;
      newest = λ differs. absurd (differs refl);
      asked = λ said e. absurd (held-says said e);
    }

-- a turn that was had isn't held
pub returns : goal.returns
returns g c = record {
  seat = c.take_planned.ensures.seat;
  end = c.take_planned.ensures.end;
  went = c.take_planned.ensures.went (terms_of c.args.context.now.config.now) c.args.live.now
      c.in-Ok.ensures.due
      (record { reads = refl; hands = refl; place = record { number = refl; end_is = refl } });
  held = λ held. absurd (c.take_planned.ensures.let_in held);
  newest = λ _. c.is_let_in.ensures.yes c.if-not-is_let_in.false;
  asked = λ _ _. subst (λ it. WasAsked it c.args.commands.now c.is_let_in.new.commands)
      c.is_at_command-at_command.ensures c.is_let_in.ensures.asked;
}
