-- What was done is one life after the other, with crashes between them.
use Rattle.std.proofs.Common.{◌≡◌, ℕ, Bool, List, [], ◌∷◌, Option, None, Some, ap, refl, subst, sym}
use Rattle.std.proofs.Common.{◌∙◌}
use Rattle.article_verdict.proofs.SoundTerms.{are_sound}
use Rattle.article_verdict.specs.Config.{terms_of}
use Rattle.block_shelf.specs.Leaving.{is_whole}
use Rattle.news_terms.specs.Token.{Token}
use Rattle.relay_conf.specs.declared.settings.Config.{Config}
use Rattle.relay_crashes.specs.Lives.{Crashed, Lived}
use Rattle.relay_facts.specs.Sound.{IsSound}
use Rattle.relay_facts.specs.Started.{newest_kept, started}
use Rattle.relay_model.specs.Claims.{after_restart}
use Rattle.relay_model.specs.Crash.{Again, Crash, Found, IsFound, Listed, claim_by, claimed}
use Rattle.relay_model.specs.Crash.{state_again, world_again}
use Rattle.std.specs.Prelude.{bytes_eq, find}
use Rattle.relay_model.specs.OnRecord.{IsBelow}
use Rattle.relay_model.specs.Run as run
use Rattle.relay_model.specs.State.{State}
use Rattle.relay_model.specs.Terms.{Terms}
use Rattle.relay_model.specs.World.{World, Output}
use Rattle.relay_drill.specs.Laws.{LivesOn}
use Rattle.relay_drill.specs.Play.{Plays, Rests, HasDone, HasTurned, IsClosed, HasOpened}
use Rattle.relay_drill.specs.Play.{HasCrashed, HasNotOpened, HasRestarted, HasReported, IsOpen}
use Rattle.relay_drill.specs.Play.{HasCrashedAgain, IsArmed, HasSurvived, IsCut, IsCutRestarting}
use Rattle.relay_drill.specs.Print.{Told, answers_of}
use Rattle.relay_drill.specs.Reviving.{Revives, IsUnsaid}
use Rattle.relay_drill.specs.Reviving as reviving
use Rattle.relay_drill.specs.Todo.{Todo}
use Rattle.relay_drill.proofs.Crashes.{same_store}
use Rattle.relay_drill.proofs.Plays.{stays_open}

-- what is found, with the newest session as a start has it
abbrev begun_from : Found → Found
begun_from found = record found { newest = Some (newest_kept found.newest) }

-- a Restart leaves a claim that is found
found_claim : (now : ℕ) (one : Option Again) (listed : Option Listed)
    → after_restart (claim_by now one listed) ≡ claim_by now one listed
found_claim now (Some one) listed = refl
found_claim now None (Some one) = refl
found_claim now None None = refl

-- what a start makes of what is found is found
is_started : (w : Terms) (found : Found) (failures : ℕ → ℕ)
    → started (world_again w found failures) failures ≡ world_again w (begun_from found) failures
is_started w found failures i =
    let y = world_again w (begun_from found) failures in
    record y {
      state = record y.state {
        claim = λ id. found_claim found.moment
            (find (λ (one : Again). bytes_eq id one.kept.id) (claimed found.texts))
            (find (λ (one : Listed). bytes_eq one.id id) found.listed) i;
      };
    }

-- a token lies as far below the front of a state with the same articles begun
still_below : (w : Terms) (found : Found) (token : Token)
    → IsBelow w (state_again w found) token → IsBelow w (state_again w (begun_from found)) token
still_below w found token is = record {
  buffer = is.buffer;
  named = is.named;
  fits = is.fits;
  some = is.some;
  inside = is.inside;
  below = is.below;
}

-- so it is what is found of a relay
still_found : (w v : Terms) (saved : Token → Bool) (σ : State) (found : Found)
    → IsFound w v saved σ found → IsFound w v saved σ (begun_from found)
still_found w v saved σ found is = record {
  sizes = is.sizes;
  laid = is.laid;
  in_time = is.in_time;
  fronts = is.fronts;
  read = is.read;
  below = λ k d within. still_below v found _ (is.below k d within);
  of_before = is.of_before;
  places = is.places;
  ids = is.ids;
  count = is.count;
  owned = is.owned;
  kept = is.kept;
  now = is.now;
  listed = is.listed;
}

-- a start behind a crash is a crash
crash_started : (w v : Terms) (saved : Token → Bool) (x after : World)
    → Crash w v saved x after → Crash w v saved x (started after after.work.failures)
crash_started w v saved x after crash = record {
  found = begun_from crash.found;
  failures = crash.failures;
  is_found = still_found w v saved x.state crash.found crash.is_found;
  after = ap (λ (y : World). started y y.work.failures) crash.after
      ∙ is_started v crash.found crash.failures;
}

-- a step comes before what follows
before_step : (w : Terms) (x mid : World) (event : run.Event) (output : Output)
    (events : List run.Event) (outputs : List Output) (y : Option World)
    → run.Step w x event output mid → LivesOn w (Some mid) events outputs y
    → LivesOn w (Some x) (event ∷ events) (output ∷ outputs) y
before_step w x mid event output events outputs None step later = tt
before_step w x mid event output events outputs (Some y) step later = record {
  episodes = Lived (event ∷ []) (output ∷ []) ∷ later.episodes;
  events_are = ap (λ (them : List run.Event). event ∷ them) later.events_are;
  outputs_are = ap (λ (them : List Output). output ∷ them) later.outputs_are;
  lives = (mid, (mid, step, refl), later.lives);
}

-- so does a crash
before_crash : (w : Terms) (moment : ℕ) (x : World) (mid : Option World)
    (events : List run.Event) (outputs : List Output) (y : Option World) → IsSound w
    → Revives w moment x mid → (mid ≡ None → y ≡ None) → LivesOn w mid events outputs y
    → LivesOn w (Some x) events outputs y
before_crash w moment x (Some mid) events outputs None sound revives stays later = tt
before_crash w moment x mid events outputs (Some y) sound (reviving.IsFound after crash at) stays
    later = record {
      episodes = Crashed w (is_whole w x.state) ∷ later.episodes;
      events_are = later.events_are;
      outputs_are = later.outputs_are;
      lives = (
        started after after.work.failures,
        record { sound = sound; same = same_store w },
        crash_started w w (is_whole w x.state) x after crash,
        later.lives,
      );
    }
before_crash w moment x None events outputs y sound (IsUnsaid some) stays later =
    subst (λ (it : Option World). LivesOn w (Some x) events outputs it) (sym (stays refl)) tt

-- What was done is one life after the other.
pub plays_lives : {config : Config} {todo : Todo} {x : Option World} {events : List run.Event}
    {told : List Told} {y : Option World} {left : Todo} → Plays config todo x events told y left
    → LivesOn (terms_of config) x events (answers_of told) y
plays_lives (Rests todo None) = tt
plays_lives (Rests todo (Some x)) =
    record { episodes = []; events_are = refl; outputs_are = refl; lives = (refl, refl) }
plays_lives (IsOpen todo events told left) = tt
plays_lives {config = config} (HasDone event more x mid output events told x' left step rest) =
    before_step (terms_of config) x mid event output events (answers_of told) x' step
    (plays_lives rest)
plays_lives (HasTurned s m more x events told x' left runs rest) = plays_lives rest
plays_lives (IsClosed s m more x events told x' left closed rest) = plays_lives rest
plays_lives {config = config} (HasRestarted more x mid output events told x' left step rest) =
    before_step (terms_of config) x mid run.Restart output events (answers_of told) x' step
    (plays_lives rest)
plays_lives {config = config} (HasCrashed moment more x mid events told x' left revives rest) =
    before_crash (terms_of config) moment x mid events (answers_of told) x' (are_sound config)
    revives (stays_open rest) (plays_lives rest)
plays_lives {config = config}
    (HasCrashedAgain moment more cut x mid events told x' left ahead revives rest) =
    before_crash (terms_of config) moment x mid events (answers_of told) x' (are_sound config)
    revives (stays_open rest) (plays_lives rest)
plays_lives (IsArmed more x events told x' left rest) = plays_lives rest
plays_lives (HasSurvived moment cut more x events told x' left rest) = plays_lives rest
plays_lives {config = config}
    (IsCut event more cut x mid output events told x' left ahead step rest) =
    before_step (terms_of config) x mid event output events (answers_of told) x' step
    (plays_lives rest)
plays_lives {config = config}
    (IsCutRestarting more cut x mid output events told x' left ahead step rest) =
    before_step (terms_of config) x mid run.Restart output events (answers_of told) x' step
    (plays_lives rest)
plays_lives (HasReported more x text events told x' left reports rest) = plays_lives rest
plays_lives (HasOpened s p opened refused x events output told x' left said rest) =
    plays_lives rest
plays_lives (HasNotOpened s p opened refused x events output told x' left said rest) =
    plays_lives rest
