use Rattle.std.proofs.Common.{[], Some, None, refl}
use Rattle.relay_laws.specs.Rows as rows
use Rattle.relay_laws.specs.StateRows as states
use Rattle.relay_laws.specs.Terms.{k1}
use Rattle.relay_laws.specs.Worlds.{pushing, third_job}
use Rattle.relay_laws.proofs.Playing.{lead_to}
use Rattle.relay_laws.proofs.states.queue_limit.Goals as goal

pub returns-clause-room : goal.returns-clause-room
returns-clause-room c = λ failures. lead_to k1 (pushing failures 63) [] (rows.turns 1 1)
    (states.HasInHand None 64) tt refl (refl, refl)

pub returns-clause-newest : goal.returns-clause-newest
returns-clause-newest c = λ failures. lead_to k1 (pushing failures 63) [] (rows.turns 1 1)
    (states.IsNewest 64 third_job) tt refl refl

pub returns-clause-full : goal.returns-clause-full
returns-clause-full c = λ failures. lead_to k1 (pushing failures 64) [] (rows.turns 1 1)
    (states.HasInHand (Some third_job) 64) tt refl (refl, refl)
