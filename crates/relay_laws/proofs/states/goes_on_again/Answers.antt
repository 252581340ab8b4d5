use Rattle.std.proofs.Common.{[], refl}
use Rattle.std.specs.Fmt.{digits}
use Rattle.relay_laws.specs.StateRows as states
use Rattle.relay_laws.specs.Terms.{k1}
use Rattle.relay_laws.specs.Worlds.{remembering, remembering_feed, forgetting}
use Rattle.relay_laws.proofs.Playing.{are_answered}
use Rattle.relay_laws.proofs.Unstored.{none_storing}
use Rattle.relay_laws.proofs.states.goes_on_again.Goals as goal

pub returns-clause-forgetting : goal.returns-clause-forgetting
returns-clause-forgetting c = λ failures. are_answered forgetting (remembering failures) []
    states.started_forgetting states.started_forgetting_replies
    (none_storing failures, tt) refl refl

pub returns-clause-feeding : goal.returns-clause-feeding
unfolding digits
returns-clause-feeding c = λ failures two. are_answered k1 (remembering_feed failures two) []
    states.started_feeding states.started_feeding_replies (none_storing failures, tt) refl refl
