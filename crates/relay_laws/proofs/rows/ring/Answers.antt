use Rattle.std.proofs.Common.{refl}
use Rattle.std.specs.Fmt.{digits}
use Rattle.relay_model.specs.World.{empty_world}
use Rattle.relay_laws.specs.Rows as rows
use Rattle.relay_laws.specs.Terms.{k1}
use Rattle.relay_laws.proofs.Playing.{are_answered}
use Rattle.relay_laws.proofs.RingArticles.{ring_hints, ring_known}
use Rattle.relay_laws.proofs.rows.ring.Goals as goal

pub returns : goal.returns
unfolding digits
returns c = λ failures. are_answered k1 (empty_world failures) ring_hints
    rows.ring rows.ring_replies (ring_known failures) refl refl
