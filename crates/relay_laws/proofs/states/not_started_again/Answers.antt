use Rattle.std.proofs.Common.{◌≡◌, ◌∙◌, ℕ, refl, sym, true≢false}
use Rattle.relay_model.specs.Run.{Step, IsRefused, WantsMemory, IsDone, Restart, Restarts, IsBusy}
use Rattle.relay_model.specs.Run.{HasNoRoom, HasNot}
use Rattle.relay_model.specs.Run as runs
use Rattle.relay_model.specs.World.{World, Output, Refuses, NotIdle}
use Rattle.relay_laws.specs.Terms.{k1, buffer_a}
use Rattle.relay_laws.specs.Worlds.{remembering}
use Rattle.relay_laws.proofs.Unstored.{none_storing}
use Rattle.relay_laws.proofs.states.not_started_again.Goals as goal

-- it isn't busy
not_busy : (failures : ℕ → ℕ) (output : Output) (y : World) → output ≡ Refuses NotIdle
    → Restarts k1 (remembering failures) output y → ⊥
not_busy failures output y is (IsBusy id storing said same) =
    true≢false (sym storing ∙ none_storing failures id)
not_busy failures output y is (HasNoRoom after rises said same) = absurd (cc)
not_busy failures output y is (HasNot i buffer after there none failed said same) = absurd (cc)
not_busy failures output y is (runs.IsDone after none rises said same) = absurd (cc)

-- nor is it by a Step
never_busy : (failures : ℕ → ℕ) (output : Output) (y : World) → output ≡ Refuses NotIdle
    → Step k1 (remembering failures) Restart output y → ⊥
never_busy failures output y is (IsRefused fault why said same) = absurd (cc)
never_busy failures output y is (WantsMemory takes said same) = absurd (cc)
never_busy failures output y is (IsDone free does) = not_busy failures output y is does

pub returns-clause-failed : goal.returns-clause-failed
returns-clause-failed c = λ failures after failed. IsDone refl
    (HasNot 0 buffer_a after refl (none_storing failures) failed refl refl)

pub returns-clause-not_busy : goal.returns-clause-not_busy
returns-clause-not_busy c = λ failures y step. never_busy failures (Refuses NotIdle) y refl step
