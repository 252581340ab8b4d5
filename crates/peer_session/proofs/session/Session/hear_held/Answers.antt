use Rattle.std.proofs.Common.{refl}
use Rattle.peer_session.proofs.session.Session.hear_held.Goals as goal

-- another answer isn't heard
pub returns-in_default : goal.returns-in_default
returns-in_default c = record {
  heard = λ article room told is phase kept. absurd (c.in_default.not-Take told is);
  other = λ other. (c.unheard.ensures, refl);
}
