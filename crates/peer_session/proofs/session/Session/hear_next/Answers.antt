use Rattle.std.proofs.Common.{refl}
use Rattle.peer_session.proofs.session.Session.hear_next.Goals as goal

-- another answer isn't heard
pub returns-in_default : goal.returns-in_default
returns-in_default c = record {
  heard = λ reading chunk found is phase found_as prepared kept.
      absurd (c.in_default.not-Chunk chunk is);
  given = λ reading chunk is phase prepared kept. absurd (c.in_default.not-Chunk chunk is);
  other = λ other. (c.unheard.ensures, refl);
}
