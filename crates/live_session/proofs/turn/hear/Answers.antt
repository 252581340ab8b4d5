use Rattle.std.proofs.Common.{refl}
use Rattle.live_session.proofs.Differs.{memory-held, says-held}
use Rattle.live_session.proofs.Hearings.{heard_for}
use Rattle.live_session.proofs.turn.hear.Goals as goal

pub returns-in-Memory : goal.returns-in-Memory
returns-in-Memory g c = record {
  heard = λ honest w m d gathered told some planned is. absurd (some c.in-Memory.is);
  memory = λ is. c.forget.ensures.gone;
  rest = c.forget.ensures.rest;
  seat = c.forget.ensures.seat;
  let_in = memory-held;
}

pub returns : goal.returns
returns g c = record {
  heard = λ honest w m d gathered told some planned is.
      heard_for c.args.live.now.number c.args.live.now.session c.args.answer c.absorb.result.items
      c.absorb.new.self c.absorb.ensures.heard c.absorb.ensures.given w m d gathered told
      planned honest is;
  memory = λ is. absurd (c.in_default.not-Memory is);
  rest = record { reads = refl; hands = refl; place = record { number = refl; end_is = refl } };
  seat = refl;
  let_in = says-held c.absorb.result;
}
