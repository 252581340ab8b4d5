use Rattle.std.proofs.Common.{refl}
use Rattle.peer_session.proofs.session.Session.hear_queue.Goals as goal

-- another answer isn't heard
pub returns-in_default : goal.returns-in_default
returns-in_default c = record {
  heard = λ taken is few ready. absurd (c.in_default.not-Queue taken is);
  other = λ other. (c.unheard.ensures, refl);
}
