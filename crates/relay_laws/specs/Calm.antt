-- Events that are answered where memory is there and no device fails.
use Rattle.std.specs.Prelude.{◌≡◌, List, [], ◌∷◌}
use Rattle.relay_model.specs.Run.{Event, Step}
use Rattle.relay_model.specs.Terms.{Terms}
use Rattle.relay_model.specs.World.{World, Output, Refuses, Memory}

-- memory was not refused, and no device failed
pub record IsCalm (x : World) (output : Output) (x' : World) : Type 0 where
  pub memory : output ≡ Refuses Memory → ⊥
  pub devices : x'.work.failures ≡ x.work.failures

-- a run of such events
abbrev pub CalmRun : Terms → World → List Event → List Output → World → Type 0
CalmRun w x [] [] x' = x' ≡ x
CalmRun w x (event ∷ events) (output ∷ outputs) x' =
    (mid : World) × Step w x event output mid × IsCalm x output mid
    × CalmRun w mid events outputs x'
CalmRun w x [] (output ∷ outputs) x' = ⊥
CalmRun w x (event ∷ events) [] x' = ⊥
