-- What holds of all lives: each place has one text at most, and each feed what it is permitted.
use Rattle.std.proofs.Common.{◌≡◌, ℕ, ◌+◌, Bool, List, [], ◌∷◌, count_by, cond, refl, sym}
use Rattle.std.proofs.Common.{ap, subst, arith, le_of_eq, le_trans, le_antisymm}
use Rattle.std.proofs.lemmas.List.Sums.{sum_by-cons}
use Rattle.news_terms.specs.Token.{Token, same_token}
use Rattle.relay_model.specs.Invariants.{IsWell}
use Rattle.relay_model.specs.State.{State, Kept}
use Rattle.relay_model.specs.Terms.{Terms}
use Rattle.relay_model.specs.World.{World, empty_world}
use Rattle.relay_facts.specs.Sound.{IsSound}
use Rattle.relay_facts.proofs.Moves.{step_moves}
use Rattle.relay_facts.proofs.Runs.{empty_well, run_well}
use Rattle.relay_model.specs.Fetches.{is_at}
use Rattle.relay_laws.proofs.OneText.{OneEach, each_kept, empty_each}
use Rattle.relay_laws.proofs.Runs.{run_keeps, well_run_keeps}
use Rattle.relay_model.specs.Crash.{Again, Found, IsFound, state_again}
use Rattle.relay_crashes.specs.Lives.{Episode, Lived, Crashed, Lives}
use Rattle.relay_laws.proofs.Accepting.{AcceptsOnce}
use Rattle.relay_laws.specs.Laws.{AcceptsStored, GainsOnce}
use Rattle.relay_laws.proofs.AcceptedOnce.{Both, once_kept, empty_once, tokens_for-le}
use Rattle.relay_crashes.proofs.OnceAgain.{found_once}
use Rattle.relay_laws.proofs.Gained.{Gains, gains_kept}
use Rattle.relay_crashes.proofs.WellAgain.{again_well, kept_of, never_storing}

-- how many of the texts that are kept pass a test
counted_kept : (p : Kept → Bool) (texts : List Again)
    → count_by p (kept_of texts) ≡ count_by (λ (one : Again). p one.kept) texts
counted_kept p [] = refl
counted_kept p (first ∷ texts) =
    let left : count_by p (kept_of (first ∷ texts))
    ≡ cond (p first.kept) 1 0 + count_by p (kept_of texts) =
    sum_by-cons (λ (one : Kept). cond (p one) 1 0) first.kept (kept_of texts) in
    let right : count_by (λ (one : Again). p one.kept) (first ∷ texts)
    ≡ cond (p first.kept) 1 0 + count_by (λ (one : Again). p one.kept) texts =
    sum_by-cons (λ (one : Again). cond (p one.kept) 1 0) first texts in
    let later : count_by p (kept_of texts) ≡ count_by (λ (one : Again). p one.kept) texts =
    counted_kept p texts in
    omega (arith, left, right, later)

-- what is found lies apart
found_apart : (w v : Terms) (saved : Token → Bool) (σ : State) (found : Found)
    → IsFound w v saved σ found → OneEach (state_again v found)
found_apart w v saved σ found is = record {
  one = λ buffer cycle first.
      le_trans (le_of_eq (counted_kept (is_at buffer cycle first) found.texts))
      (is.places buffer cycle first);
  none = λ id token begun. absurd (never_storing found id begun.0 begun.1 _ begun.2);
  alone = λ id other token had begun.
      absurd (never_storing found id begun.0 begun.1 _ begun.2);
}

-- all that lives keep
pub record KeepsAll (w : Terms) (x : World) : Type 0 where
  pub well : IsWell w x
  pub each : OneEach x.state
  pub once : AcceptsOnce x.state
  pub gains : Gains x.state

-- lives keep it
lives_keep : (w v : Terms) (x y : World) (episodes : List Episode) → IsSound w → KeepsAll w x
    → Lives w x episodes v y → KeepsAll v y
lives_keep w v x y [] sound all lives =
    subst (λ (u : Terms). KeepsAll u y) (sym lives.0)
    (subst (λ (z : World). KeepsAll w z) (sym lives.1) all)
lives_keep w v x y (Lived events outputs ∷ later) sound all lives =
    lives_keep w v lives.0 y later sound
    (record {
      well = run_well w x lives.0 events outputs sound all.well lives.1;
      each =
          well_run_keeps w sound (λ (z : World). OneEach z.state)
          (λ z event output z' well step each.
          each_kept w sound z.state z'.state (step_moves w z event output z' step) well.sized
          well.on_record each)
          x all.well all.each events outputs lives.0 lives.1;
      once =
          (well_run_keeps w sound (λ (z : World). Both z.state)
          (λ z event output z' well step both.
          let move = step_moves w z event output z' step in
          record {
            each =
                each_kept w sound z.state z'.state move well.sized well.on_record both.each;
            once = once_kept w z.state z'.state move both.each both.once;
          })
          x all.well (record { each = all.each; once = all.once }) events outputs lives.0
          lives.1).once;
      gains =
          run_keeps w (λ (z : World). Gains z.state)
          (λ z event output z' step.
          gains_kept w z.state z'.state (step_moves w z event output z' step))
          x all.gains events outputs lives.0 lives.1;
    })
    lives.2
lives_keep w v x y (Crashed next saved ∷ later) sound all lives =
    let crash = lives.2 in
    lives_keep next v lives.0 y later lives.1.sound
    (subst (KeepsAll next) (sym crash.after)
    (record {
      well = again_well w next saved x.state crash.found crash.failures crash.is_found;
      each = found_apart w next saved x.state crash.found crash.is_found;
      once = found_once w next saved x.state crash.found crash.is_found;
      gains = λ f. refl;
    }))
    lives.3

-- from the beginning
pub all_lives : (w v : Terms) (failures : ℕ → ℕ) (episodes : List Episode) (y : World) → IsSound w
    → Lives w (empty_world failures) episodes v y → KeepsAll v y
all_lives w v failures episodes y sound lives =
    lives_keep w v (empty_world failures) y episodes sound
    (record {
      well = empty_well w failures;
      each = empty_each failures;
      once = empty_once failures;
      gains = λ f. refl;
    })
    lives

-- no feed has gained a token twice since the last crash
pub gains_once_again : (w : Terms) (x : World) → KeepsAll w x → GainsOnce x
gains_once_again w x all feed token =
    le_trans
    (le_of_eq
    (ap (λ tokens. count_by (λ one. same_token one token) tokens) (all.gains feed)))
    (le_trans (tokens_for-le feed token x.state.accepted) (all.once.once token))

-- the token of an id that is stored is accepted once
pub accepts_stored_again : (w : Terms) (x : World) → KeepsAll w x → AcceptsStored x
accepts_stored_again w x all id token moment stored =
    le_antisymm (all.once.once token) (all.once.some id token moment stored)
