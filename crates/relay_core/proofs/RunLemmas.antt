-- A run goes on by one step at its end.
use Rattle.std.proofs.Common.{◌≡◌, ℕ, ◌+◌, ◌<◌, ◌≤◌, ◌++◌, List, [], ◌∷◌, length, get_or, take, map}
use Rattle.std.proofs.Common.{refl, sym, ap, ◌∙◌, subst, true, false}
use Rattle.std.proofs.lemmas.List.{take_more, map-append, take_all}
use Rattle.article_verdict.specs.Config.{terms_of}
use Rattle.cyc_block.specs.declared.store.BlockStore.{Ghosts}
use Rattle.relay_conf.specs.declared.settings.Config.{Config}
use Rattle.relay_model.specs.Run.{Event, Step, Run}
use Rattle.relay_model.specs.Terms.{Terms}
use Rattle.relay_model.specs.World.{World, Output}
use Rattle.relay_core.specs.Steps.{RunsAs, Steps, StepsAs, StepsLeft}
use Rattle.relay_core.specs.Views.{event_view, output_view}
use Rattle.relay_core.specs.declared.event.Event as coded
use Rattle.relay_core.specs.declared.event.Output as code
use Rattle.relay_core.specs.declared.system.System.{System}

run_on : (w : Terms) (events : List Event) (outputs : List Output) (x mid after : World)
    (event : Event) (output : Output) → Run w x events outputs mid
    → Step w mid event output after → Run w x (events ++ event ∷ []) (outputs ++ output ∷ []) after
run_on w [] [] x mid after event output ran step =
    (after, subst (λ (y : World). Step w y event output after) ran step, refl)
run_on w (e ∷ events) (o ∷ outputs) x mid after event output ran step =
    (ran.0, ran.1, run_on w events outputs ran.0 mid after event output ran.2 step)
run_on w [] (o ∷ outputs) x mid after event output ran step = absurd ran
run_on w (e ∷ events) [] x mid after event output ran step = absurd ran

module _ {S : Type 0} {g : Ghosts S} where
  -- an event that is a step over honest stores, and over such as a crash may leave
  pub either : (event : Event) (old : System S g) (output : code.Output) (new : System S g)
      → Steps event old output new → StepsLeft event old output new → StepsAs event old output new
  either event old output new steps leaves false = steps
  either event old output new steps leaves true = leaves

  -- nothing has come
  pub ran_none : (s : System S g) → RunsAs [] s [] s
  ran_none s = λ leaving x agrees. record { after = x; agrees = agrees; runs = refl }

  -- one more event has come
  pub ran_on : (old s new : System S g) (events : List Event) (outputs : List Output)
      (event : Event) (output : code.Output) → s.config ≡ old.config
      → RunsAs events old outputs s → StepsAs event s output new
      → RunsAs (events ++ event ∷ []) old (outputs ++ output_view output ∷ []) new
  ran_on old s new events outputs event output config ran step = λ leaving x agrees.
      let before = ran leaving x agrees in
      let after = step leaving before.after before.agrees in
      let P : Config → Type 0 = λ c. Step (terms_of c) before.after event (output_view output)
      after.after in
      record {
        after = after.after;
        agrees = after.agrees;
        runs = run_on (terms_of old.config) events outputs x before.after after.after event
            (output_view output) before.runs (subst P config after.is_step);
      }

  -- one more of the events is answered
  pub ran_more : (old s new : System S g) (events : List coded.Event)
      (before after : List code.Output) (i : ℕ) (event : coded.Event) (output : code.Output)
      → i < length events → event ≡ get_or events i event → after ≡ before ++ output ∷ []
      → s.config ≡ old.config
      → RunsAs (map event_view (take i events)) old (map output_view before) s
      → StepsAs (event_view event) s output new
      → RunsAs (map event_view (take (i + 1) events)) old (map output_view after) new
  ran_more old s new events before after i event output below is grows config ran step =
      let es : map event_view (take (i + 1) events)
      ≡ map event_view (take i events) ++ event_view event ∷ [] =
      ap (λ (xs : List coded.Event). map event_view xs) (take_more events i event below)
      ∙ map-append event_view (take i events) (get_or events i event ∷ [])
      ∙ ap (λ (e : coded.Event). map event_view (take i events) ++ event_view e ∷ [])
      (sym is) in
      let os : map output_view after ≡ map output_view before ++ output_view output ∷ [] =
      ap (λ (xs : List code.Output). map output_view xs) grows
      ∙ map-append output_view before (output ∷ []) in
      subst (λ (xs : List Event). RunsAs xs old (map output_view after) new) (sym es)
      (subst (λ (ys : List Output).
      RunsAs (map event_view (take i events) ++ event_view event ∷ []) old ys new) (sym os)
      (ran_on old s new (map event_view (take i events)) (map output_view before)
      (event_view event) output config ran step))

  -- all of them are answered
  pub ran_all : (old new : System S g) (events : List coded.Event) (outputs : List Output)
      (i : ℕ) → length events ≤ i → RunsAs (map event_view (take i events)) old outputs new
      → RunsAs (map event_view events) old outputs new
  ran_all old new events outputs i all ran =
      subst (λ (xs : List coded.Event). RunsAs (map event_view xs) old outputs new)
      (take_all i events all) ran
