-- What each step keeps holds after each run.
use Rattle.std.proofs.Common.{ℕ, [], ◌∷◌, sym, subst}
use Rattle.relay_model.specs.Invariants.{IsWell}
use Rattle.relay_model.specs.Run.{Event, Step}
use Rattle.relay_model.specs.Terms.{Terms}
use Rattle.relay_model.specs.World.{World, Output, empty_world}
use Rattle.relay_facts.specs.Sound.{IsSound}
use Rattle.relay_facts.proofs.Runs.{empty_well, step_well}
use Rattle.relay_laws.specs.Laws.{Always, AlwaysFrom}

-- what each step keeps
pub run_keeps : (w : Terms) (holds : World → Type 0)
    → ((x : World) (event : Event) (output : Output) (x' : World) → Step w x event output x'
    → holds x → holds x')
    → (x : World) → holds x → AlwaysFrom w x holds
run_keeps w holds keeps x at [] [] x' run = subst holds (sym run) at
run_keeps w holds keeps x at (event ∷ events) (output ∷ outputs) x' run =
    run_keeps w holds keeps run.0 (keeps x event output run.0 run.1 at) events outputs x' run.2
run_keeps w holds keeps x at [] (output ∷ outputs) x' run = absurd run
run_keeps w holds keeps x at (event ∷ events) [] x' run = absurd run

-- a world that is well, and of which something holds
record Both (w : Terms) (holds : World → Type 0) (x : World) : Type 0 where
  well : IsWell w x
  at : holds x

-- what each step from a well world keeps, under sound terms
pub well_run_keeps : (w : Terms) → IsSound w → (holds : World → Type 0)
    → ((x : World) (event : Event) (output : Output) (x' : World) → IsWell w x
    → Step w x event output x' → holds x → holds x')
    → (x : World) → IsWell w x → holds x → AlwaysFrom w x holds
well_run_keeps w sound holds keeps x well at events outputs x' run =
    (run_keeps w (Both w holds)
    (λ y event output y' step both. record {
      well = step_well w y y' event output sound both.well step;
      at = keeps y event output y' both.well step both.at;
    })
    x (record { well = well; at = at }) events outputs x' run).at

-- the same from the beginning
pub always_keeps : (w : Terms) → IsSound w → (holds : World → Type 0)
    → ((x : World) (event : Event) (output : Output) (x' : World) → IsWell w x
    → Step w x event output x' → holds x → holds x')
    → ((failures : ℕ → ℕ) → holds (empty_world failures)) → Always w holds
always_keeps w sound holds keeps begins failures =
    well_run_keeps w sound holds keeps (empty_world failures) (empty_well w failures)
    (begins failures)

-- each world that a run from the beginning leads to is well
pub always_well : (w : Terms) → IsSound w → Always w (IsWell w)
always_well w sound failures =
    run_keeps w (IsWell w) (λ x event output x' step well.
    step_well w x x' event output sound well step) (empty_world failures) (empty_well w failures)
