use Rattle.std.proofs.Common.{[], codes, refl}
use Rattle.relay_model.specs.Run.{Restart, IsBusy, IsDone}
use Rattle.relay_model.specs.World.{Refuses, NotIdle}
use Rattle.relay_laws.specs.StateRows as states
use Rattle.relay_laws.specs.Terms.{k1}
use Rattle.relay_laws.specs.Worlds.{remembering, two_stored}
use Rattle.relay_laws.proofs.Playing.{are_answered, answered_so}
use Rattle.relay_laws.proofs.Unstored.{none_storing}
use Rattle.relay_laws.proofs.states.started_again.Goals as goal

pub returns-clause-idle : goal.returns-clause-idle
returns-clause-idle c = λ failures. are_answered k1 (remembering failures) []
    states.started_again states.started_again_replies (none_storing failures, tt) refl refl

pub returns-clause-busy : goal.returns-clause-busy
returns-clause-busy c = λ failures one two.
    let x = two_stored failures one two in
    answered_so k1 x Restart (Refuses NotIdle) x
    (IsDone refl (IsBusy (codes "<3@x>") refl refl refl)) refl refl
