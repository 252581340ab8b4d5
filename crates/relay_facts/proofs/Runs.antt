-- Each step and each run from a well world leads to one.
use Rattle.std.proofs.Common.{ℕ, List, [], ◌∷◌, sym, subst, rules}
use Rattle.std.proofs.lemmas.List.Elements.{All-nil}
use Rattle.std.proofs.lemmas.Option.{none-some}
use Rattle.news_terms.proofs.CourseLaws.{first_laid}
use Rattle.relay_model.specs.Invariants.{IsKeptRight, IsWell}
use Rattle.relay_model.specs.Run.{Event, Run, Step}
use Rattle.relay_model.specs.Terms.{Terms}
use Rattle.relay_model.specs.World.{World, Output, empty_world}
use Rattle.relay_facts.specs.Sound.{IsSound}
use Rattle.relay_facts.proofs.CountedSteps.{empty_counted}
use Rattle.relay_facts.proofs.CountedRuns.{step_counted}
use Rattle.relay_facts.proofs.OnRecord.{empty_on_record, step_on_record}
use Rattle.relay_facts.proofs.Orderly.{IsOrderly, orderly_of, well_of}
use Rattle.relay_facts.proofs.SessionOrderly.{FitsOne}
use Rattle.relay_facts.proofs.StepErrands.{empty_awaited, step_awaited}
use Rattle.relay_facts.proofs.Steps.{step_orderly}

-- the empty world is in order
empty_orderly : (w : Terms) (failures : ℕ → ℕ) → IsOrderly w (empty_world failures)
empty_orderly w failures = record {
  numbered = search rules;
  placed = search rules;
  sized = record {
    begun = λ g group there. All-nil (FitsOne group);
    laid = λ g group there. first_laid group;
    storing = λ id s article stage is. absurd (cc);
    held_one = λ s session article none holds. absurd (none-some session none);
    kept = All-nil IsKeptRight;
  };
}

-- and well
pub empty_well : (w : Terms) (failures : ℕ → ℕ) → IsWell w (empty_world failures)
empty_well w failures =
    well_of w (empty_world failures) (empty_orderly w failures) (empty_awaited failures)
    (empty_counted w failures) (empty_on_record w failures)

-- a step
pub step_well : (w : Terms) (x x' : World) (event : Event) (output : Output) → IsSound w
    → IsWell w x → Step w x event output x' → IsWell w x'
step_well w x x' event output sound well step =
    let orderly = orderly_of w x well in
    well_of w x' (step_orderly w x x' event output sound orderly step)
    (step_awaited w x x' event output orderly well.awaited step)
    (step_counted w x x' event output orderly well.counted step)
    (step_on_record w x x' event output sound well.sized well.on_record step)

-- a run
pub run_well : (w : Terms) (x x' : World) (events : List Event) (outputs : List Output)
    → IsSound w → IsWell w x → Run w x events outputs x' → IsWell w x'
run_well w x x' [] [] sound well run = subst (IsWell w) (sym run) well
run_well w x x' (event ∷ events) (output ∷ outputs) sound well run =
    run_well w run.0 x' events outputs sound
    (step_well w x run.0 event output sound well run.1) run.2
run_well w x x' [] (output ∷ outputs) sound well run = absurd run
run_well w x x' (event ∷ events) [] sound well run = absurd run
