-- What a phase says that doesn't run.
use Rattle.std.proofs.Common.{◌≡◌, false, refl}
use Rattle.relay_model.specs.Run.{is_running}
use Rattle.relay_model.specs.State as model

-- a phase that doesn't run is the last
pub not_running : (phase : model.Phase) → is_running phase ≡ false → phase ≡ model.Ended
not_running model.Ready h = cc
not_running (model.AwaitsBlock transfer id) h = cc
not_running (model.Holds id article) h = cc
not_running (model.Waits transfer id) h = cc
not_running (model.Fetches asked token had) h = cc
not_running model.Leaving h = cc
not_running model.Ended h = refl
