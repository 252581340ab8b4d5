-- What of a script is done: the events, what is told of each, and the world after them.
use Rattle.std.specs.Prelude.{◌≡◌, ℕ, Bool, true, false, List, [], ◌∷◌, Option, None, Some}
use Rattle.article_verdict.specs.Config.{terms_of}
use Rattle.relay_conf.specs.declared.settings.Config.{Config}
use Rattle.relay_model.specs.Run as run
use Rattle.relay_model.specs.Run.{Step, is_running, is_there}
use Rattle.relay_model.specs.World as world
use Rattle.relay_model.specs.World.{World, Output}
use Rattle.relay_report.specs.Report.{ReportsOn}
use Rattle.relay_drill.specs.Print.{Told, Answered, Restarted, Lost, Repaired, Reported}
use Rattle.relay_drill.specs.Reviving.{Revives}
use Rattle.relay_drill.specs.Todo.{Todo, Next, TurnOf, Restarting, Crashing, Arming, Survived}
use Rattle.relay_drill.specs.Todo.{Report, Opening, behind_cut}

-- the event was refused
abbrev pub is_refused : Output → Bool
is_refused world.Quiet = false
is_refused (world.Sent session octets) = false
is_refused (world.Rejects session octets reason) = false
is_refused (world.Ended session octets) = false
is_refused (world.Refuses fault) = true

-- From a world a relay of this configuration does these events of what is to be done, each as it
-- may, and this is told; then the world is this, and that is left to be done. Behind a crash of
-- which nothing is said there is no world, and whatever is told may be.
pub data Plays (config : Config)
    : Todo → Option World → List run.Event → List Told → Option World → Todo → Type 0 where
  -- nothing more is done
  Rests : (todo : Todo) (x : Option World) → Plays config todo x [] [] x todo
  -- the next event is done
  HasDone : (event : run.Event) (more : Todo) (x mid : World) (output : Output)
      (events : List run.Event) (told : List Told) (x' : Option World) (left : Todo)
      → Step (terms_of config) x event output mid
      → Plays config more (Some mid) events told x' left
      → Plays config (Next event more) (Some x) (event ∷ events) (Answered output ∷ told) x' left
  -- a session that isn't closed has its Turn
  HasTurned : (session moment : ℕ) (more : Todo) (x : World) (events : List run.Event)
      (told : List Told) (x' : Option World) (left : Todo)
      → is_there is_running (x.state.session session) ≡ true
      → Plays config (Next (run.Turn session moment) more) (Some x) events told x' left
      → Plays config (TurnOf session moment more) (Some x) events told x' left
  -- one that is closed has none
  IsClosed : (session moment : ℕ) (more : Todo) (x : World) (events : List run.Event)
      (told : List Told) (x' : Option World) (left : Todo)
      → is_there is_running (x.state.session session) ≡ false
      → Plays config more (Some x) events told x' left
      → Plays config (TurnOf session moment more) (Some x) events told x' left
  -- the relay is closed and started again, or that is refused
  HasRestarted : (more : Todo) (x mid : World) (output : Output) (events : List run.Event)
      (told : List Told) (x' : Option World) (left : Todo)
      → Step (terms_of config) x run.Restart output mid
      → Plays config more (Some mid) events told x' left
      → Plays config (Restarting more) (Some x) (run.Restart ∷ events) (Restarted output ∷ told) x'
      left
  -- the relay is killed, repaired and started
  HasCrashed : (moment : ℕ) (more : Todo) (x : World) (mid : Option World)
      (events : List run.Event) (told : List Told) (x' : Option World) (left : Todo)
      → Revives (terms_of config) moment x mid → Plays config more mid events told x' left
      → Plays config (Crashing moment more) (Some x) events (Repaired ∷ told) x' left
  -- the repair or the start behind it is cut: what that leaves is repaired in its turn
  HasCrashedAgain : (moment : ℕ) (more cut : Todo) (x : World) (mid : Option World)
      (events : List run.Event) (told : List Told) (x' : Option World) (left : Todo)
      → behind_cut more ≡ Some cut → Revives (terms_of config) moment x mid
      → Plays config cut mid events told x' left
      → Plays config (Crashing moment more) (Some x) events told x' left
  -- from here on the power may go in an event
  IsArmed : (more : Todo) (x : World) (events : List run.Event) (told : List Told)
      (x' : Option World) (left : Todo) → Plays config more (Some x) events told x' left
      → Plays config (Arming more) (Some x) events told x' left
  -- it didn't in this line
  HasSurvived : (moment : ℕ) (cut more : Todo) (x : World) (events : List run.Event)
      (told : List Told) (x' : Option World) (left : Todo)
      → Plays config more (Some x) events told x' left
      → Plays config (Survived moment cut more) (Some x) events told x' left
  -- it goes in the next event: that is done in the world, in which the call lies behind which it
  -- went, and nothing of it is told
  IsCut : (event : run.Event) (more cut : Todo) (x mid : World) (output : Output)
      (events : List run.Event) (told : List Told) (x' : Option World) (left : Todo)
      → behind_cut more ≡ Some cut → Step (terms_of config) x event output mid
      → Plays config cut (Some mid) events told x' left
      → Plays config (Next event more) (Some x) (event ∷ events) (Lost output ∷ told) x' left
  -- it goes while the relay is closed and started again
  IsCutRestarting : (more cut : Todo) (x mid : World) (output : Output)
      (events : List run.Event) (told : List Told) (x' : Option World) (left : Todo)
      → behind_cut more ≡ Some cut → Step (terms_of config) x run.Restart output mid
      → Plays config cut (Some mid) events told x' left
      → Plays config (Restarting more) (Some x) (run.Restart ∷ events) (Lost output ∷ told) x' left
  -- nothing is said any more
  IsOpen : (todo : Todo) (events : List run.Event) (told : List Told) (left : Todo)
      → Plays config todo None events told None left
  -- what the relay reports is told, and the world stays as it is
  HasReported : (more : Todo) (x : World) (text : List ℕ) (events : List run.Event)
      (told : List Told) (x' : Option World) (left : Todo) → ReportsOn config x.state text
      → Plays config more (Some x) events told x' left
      → Plays config (Report more) (Some x) events (Reported text ∷ told) x' left
  -- a session is opened
  HasOpened : (session peer : ℕ) (opened refused : Todo) (x : World) (events : List run.Event)
      (output : Output) (told : List Told) (x' : Option World) (left : Todo)
      → is_refused output ≡ false
      → Plays config (Next (run.Open session peer) opened) (Some x) events
      (Answered output ∷ told) x' left
      → Plays config (Opening session peer opened refused) (Some x) events
      (Answered output ∷ told) x' left
  -- a session is refused to open
  HasNotOpened : (session peer : ℕ) (opened refused : Todo) (x : World)
      (events : List run.Event) (output : Output) (told : List Told) (x' : Option World)
      (left : Todo) → is_refused output ≡ true
      → Plays config (Next (run.Open session peer) refused) (Some x) events
      (Answered output ∷ told) x' left
      → Plays config (Opening session peer opened refused) (Some x) events
      (Answered output ∷ told) x' left
