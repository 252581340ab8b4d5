-- What lives keep: each text that is kept has its own message-id, or none.
use Rattle.std.proofs.Common.{◌≡◌, ℕ, List, [], ◌∷◌, All, sym, subst, inl}
use Rattle.std.proofs.Common.{◌⊎◌, Bool}
use Rattle.std.proofs.lemmas.List.Elements.{All-nil, All-map, All-weaker}
use Rattle.std.proofs.lemmas.Option.{none-some}
use Rattle.news_terms.specs.Article.{Article, message_id}
use Rattle.news_terms.specs.Token.{Token}
use Rattle.news_terms.proofs.ArticleReadings.{one_article}
use Rattle.relay_model.specs.Crash.{Again, Found, IsFound, IsRead, state_again}
use Rattle.relay_model.specs.Invariants.{IsWell}
use Rattle.relay_model.specs.Run.{Event, Run}
use Rattle.relay_model.specs.State.{State, Kept}
use Rattle.relay_model.specs.Terms.{Terms}
use Rattle.relay_model.specs.World.{World, Output, empty_world}
use Rattle.relay_facts.specs.Sound.{IsSound}
use Rattle.relay_facts.proofs.Runs.{empty_well, run_well}
use Rattle.relay_laws.specs.Laws.{Always}
use Rattle.relay_laws.proofs.Runs.{well_run_keeps}
use Rattle.relay_crashes.specs.Ids.{HasOwnId, HasOwnIdOrNone}
use Rattle.relay_crashes.specs.Lives.{Episode, Lived, Crashed, Lives}
use Rattle.relay_crashes.proofs.OwnIds.{AllOwn, Joins, step_own}
use Rattle.relay_crashes.proofs.WellAgain.{again_well, never_storing}

-- what is stored under an id that is its own
joins_own : Joins HasOwnId
joins_own one is = λ a reads. sym (is a reads)

joins_or_none : Joins HasOwnIdOrNone
joins_or_none one is = λ a reads. inl (sym (is a reads))

-- nothing is stored in the empty world
empty_own : (P : Kept → Type 0) (failures : ℕ → ℕ) → AllOwn P (empty_world failures).state
empty_own P failures = record {
  claims = λ id s article stage e. absurd (cc (e));
  sessions = λ s session there. absurd (none-some session there);
  kept = All-nil P;
}

-- a run keeps it
run_own : (w : Terms) → IsSound w → (P : Kept → Type 0) → Joins P → (x : World) → IsWell w x
    → AllOwn P x.state → (events : List Event) (outputs : List Output) (x' : World)
    → Run w x events outputs x' → AllOwn P x'.state
run_own w sound P joins x well all events outputs x' run =
    well_run_keeps w sound (λ (z : World). AllOwn P z.state)
    (λ z event output z' well step. step_own w sound P joins z event output z' well step)
    x well all events outputs x' run

-- in each run from the beginning
pub own_in_life : (w : Terms) → IsSound w → Always w (λ (x : World). All HasOwnId x.state.kept)
own_in_life w sound failures events outputs x run =
    (run_own w sound HasOwnId joins_own (empty_world failures) (empty_well w failures)
    (empty_own HasOwnId failures) events outputs x run).kept

-- what is found
read_id : (one : Again) → IsRead one → HasOwnIdOrNone one.kept
read_id one is = λ a reads.
    let same : one.read ≡ a =
    one_article one.kept.text one.read a is.is_read.laid_out reads.laid_out in
    subst (λ (b : Article). (one.kept.id ≡ message_id b.fields) ⊎ (one.kept.id ≡ [])) same is.id

found_own : (w v : Terms) (saved : Token → Bool) (σ : State) (found : Found)
    → IsFound w v saved σ found → AllOwn HasOwnIdOrNone (state_again v found)
found_own w v saved σ found is = record {
  claims = λ id s article stage e. absurd (never_storing found id s article stage e);
  sessions = λ s session there. absurd (none-some session there);
  kept =
      All-map HasOwnIdOrNone (λ (one : Again). one.kept) found.texts
      (All-weaker IsRead (λ (one : Again). HasOwnIdOrNone one.kept) read_id found.texts is.read);
}

-- lives keep it
lives_own : (w v : Terms) (x y : World) (episodes : List Episode) → IsSound w → IsWell w x
    → AllOwn HasOwnIdOrNone x.state → Lives w x episodes v y → AllOwn HasOwnIdOrNone y.state
lives_own w v x y [] sound well all lives =
    subst (λ (z : World). AllOwn HasOwnIdOrNone z.state) (sym lives.1) all
lives_own w v x y (Lived events outputs ∷ later) sound well all lives =
    lives_own w v lives.0 y later sound
    (run_well w x lives.0 events outputs sound well lives.1)
    (run_own w sound HasOwnIdOrNone joins_or_none x well all events outputs lives.0 lives.1)
    lives.2
lives_own w v x y (Crashed next saved ∷ later) sound well all lives =
    let crash = lives.2 in
    lives_own next v lives.0 y later lives.1.sound
    (subst (IsWell next) (sym crash.after)
    (again_well w next saved x.state crash.found crash.failures crash.is_found))
    (subst (λ (z : World). AllOwn HasOwnIdOrNone z.state) (sym crash.after)
    (found_own w next saved x.state crash.found crash.is_found))
    lives.3

-- from the beginning
pub own_in_lives : (w v : Terms) (failures : ℕ → ℕ) (episodes : List Episode) (y : World)
    → IsSound w → Lives w (empty_world failures) episodes v y → All HasOwnIdOrNone y.state.kept
own_in_lives w v failures episodes y sound lives =
    (lives_own w v (empty_world failures) y episodes sound (empty_well w failures)
    (empty_own HasOwnIdOrNone failures) lives).kept
