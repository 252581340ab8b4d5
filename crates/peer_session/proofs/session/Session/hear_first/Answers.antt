use Rattle.std.proofs.Common.{refl}
use Rattle.peer_session.proofs.session.Session.hear_first.Goals as goal

-- another answer isn't heard
pub returns-in_default : goal.returns-in_default
returns-in_default c = record {
  heard = λ chunk found is found_as prepared ready. absurd (c.in_default.not-Chunk chunk is);
  given = λ chunk is prepared ready. absurd (c.in_default.not-Chunk chunk is);
  other = λ other. (c.unheard.ensures, refl);
}
