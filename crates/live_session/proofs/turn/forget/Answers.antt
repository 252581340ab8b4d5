use Rattle.std.proofs.Common.{refl}
use Rattle.live_session.proofs.turn.forget.Goals as goal

pub returns-clause-gone : goal.returns-clause-gone
returns-clause-gone g c = record {
  forgets = c.absorb.ensures.memory refl;
  silent = refl;
}
