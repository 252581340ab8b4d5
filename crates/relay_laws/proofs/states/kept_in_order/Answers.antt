use Rattle.std.proofs.Common.{refl}
use Rattle.std.specs.Fmt.{digits}
use Rattle.relay_model.specs.World.{empty_world}
use Rattle.relay_laws.specs.Rows as rows
use Rattle.relay_laws.specs.StateRows as states
use Rattle.relay_laws.specs.Terms.{k1}
use Rattle.relay_laws.proofs.Playing.{lead_to}
use Rattle.relay_laws.proofs.RingArticles.{ring_hints, ring_known}
use Rattle.relay_laws.proofs.states.kept_in_order.Goals as goal

pub returns : goal.returns
unfolding digits
returns c = λ failures. lead_to k1 (empty_world failures) ring_hints
    rows.ring states.AreInOrder (ring_known failures)
    refl (refl, refl)
