use Rattle.std.proofs.Common.{[], ◌∷◌, Some, None, refl}
use Rattle.std.specs.Prelude.{replicate}
use Rattle.relay_laws.specs.OtherTerms.{two_groups}
use Rattle.relay_laws.specs.Rows as rows
use Rattle.relay_laws.specs.StateRows as states
use Rattle.relay_laws.specs.Worlds.{pushing_to_second, fourth_job, other_job}
use Rattle.relay_laws.proofs.Playing.{lead_to}
use Rattle.relay_laws.proofs.states.own_queue.Goals as goal

pub returns-clause-room : goal.returns-clause-room
returns-clause-room c = λ failures. lead_to two_groups (pushing_to_second failures 64 0) []
    (rows.turns 1 1) (states.AreQueued None (replicate 64 fourth_job) (other_job ∷ [])) tt refl
    (refl, refl, refl)

pub returns-clause-full : goal.returns-clause-full
returns-clause-full c = λ failures. lead_to two_groups (pushing_to_second failures 0 64) []
    (rows.turns 1 1) (states.AreQueued (Some other_job) [] (replicate 64 other_job)) tt refl
    (refl, refl, refl)
