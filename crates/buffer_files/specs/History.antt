-- The history of a relay, as serving it reads and keeps it.
use Rattle.std.specs.Prelude.{◌≡◌, ◌⊎◌, ◌∷◌, ℕ, Bool, true, false, List, [], Option, None}
use Rattle.relay_folder.specs.declared.history_place.HistoryPlace.{Ghosts}
use Rattle.relay_report.specs.declared.fault.ServeError.{ServeError}
use Rattle.relay_report.specs.declared.fault.ServeError.TheVariants as faults
use Rattle.relay_report.specs.declared.keeping.StartFault.TheVariants as starts

-- what is kept once it is known what a relay begins from: nothing where all is formatted because it
-- was asked for, else what was
abbrev pub kept_by : (fresh : Bool) → Option (List ℕ) → Option (List ℕ)
kept_by true kept = None
kept_by false kept = kept

-- memory was refused, or the history can't be had
abbrev pub IsOriginFault : ServeError → Type 0
IsOriginFault error = (error ≡ faults.Memory) ⊎ (error ≡ faults.Start starts.History)

-- nothing is kept any more, also after a power cut
pub record IsForgotten {P : Type 0} (g : Ghosts P) (old new : P) : Type 0 where
  pub gone : g.honest old → g.kept new ≡ None
  pub lasts : g.honest old → g.lasting new ≡ None ∷ []
