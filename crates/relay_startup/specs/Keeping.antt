-- That the history of a relay is kept, and why it isn't (docs/PROTOCOL.md, Statuses).
use Rattle.std.specs.Prelude.{◌≡◌, ◌∷◌, ℕ, List, [], All, Any, Some}
use Rattle.relay_folder.specs.Keeping.{IsNotKept}
use Rattle.relay_folder.specs.declared.history_place.HistoryPlace as places
use Rattle.relay_report.specs.declared.fault.ServeError.{ServeError}
use Rattle.relay_report.specs.declared.fault.ServeError.TheVariants as faults
use Rattle.relay_report.specs.declared.keeping.StopFault.TheVariants as stops

-- The error tells why this history isn't kept: the device of a store couldn't be had take all that
-- was written, and what was kept before was not touched; or each device has it, and the text can't
-- be kept.
abbrev pub TellsKeeping : {S H : Type 0} → (is_synced : S → Type 0) → places.Ghosts H
    → (text : List ℕ) → (stores : List S) → (old new : H) → ServeError → Type 0
TellsKeeping is_synced h text stores old new (faults.Stop stops.Device) =
    Any (λ store. ¬ is_synced store) stores × (new ≡ old)
TellsKeeping is_synced h text stores old new (faults.Stop stops.History) =
    All is_synced stores × (h.honest old → IsNotKept h text old new)
TellsKeeping is_synced h text stores old new error = ⊥

-- This history is kept for good: each store's device has all that was written, and a power cut
-- leaves this text.
pub record IsKeptAs {S H : Type 0} (is_synced : S → Type 0) (h : places.Ghosts H)
    (text : List ℕ) (stores : List S) (old new : H) : Type 0 where
  pub synced : All is_synced stores
  pub kept : h.honest old → h.kept new ≡ Some text
  pub lasting : h.honest old → h.lasting new ≡ Some text ∷ []
