-- What the laws of drills say.
use Rattle.std.specs.Prelude.{◌≡◌, ◌&&◌, Bool, true, false, List, [], ◌∷◌, ◌++◌, Option, None}
use Rattle.std.specs.Prelude.{Some}
use Rattle.relay_crashes.specs.Lives.{Episode, Crashed, Lived, Lives}
use Rattle.relay_model.specs.Run.{Event, Run}
use Rattle.relay_model.specs.Terms.{Terms}
use Rattle.relay_model.specs.World.{World, Output}
use Rattle.relay_drill.specs.Script as script
use Rattle.relay_drill.specs.Script.{Line}
use Rattle.relay_drill.specs.Todo.{Todo, Done, Next, TurnOf, Restarting, Crashing, Arming}
use Rattle.relay_drill.specs.Todo.{Survived, Report, Opening}

-- nothing of what is to be done is a crash, and none is ahead
abbrev pub is_one_life : Todo → Bool
is_one_life Done = true
is_one_life (Next event more) = is_one_life more
is_one_life (TurnOf session moment more) = is_one_life more
is_one_life (Restarting more) = is_one_life more
is_one_life (Crashing moment more) = false
is_one_life (Arming more) = false
is_one_life (Survived moment cut more) = false
is_one_life (Report more) = is_one_life more
is_one_life (Opening session peer opened refused) = is_one_life opened && is_one_life refused

-- the line is a crash
abbrev pub is_crash : Line → Bool
is_crash (script.Opens session peer) = false
is_crash (script.Brings session octets) = false
is_crash (script.Splits octets) = false
is_crash (script.Turns session moment) = false
is_crash (script.Writes group moment) = false
is_crash (script.Rounds count moment) = false
is_crash (script.Breaks session) = false
is_crash (script.Expires shard moment) = false
is_crash (script.Fails buffer call) = false
is_crash script.Restarts = false
is_crash script.Crashes = true
is_crash (script.CrashesAt buffer call) = true
is_crash script.Reports = false

-- the events are a run from this world to that; nothing is said where there is no world
abbrev pub RunsOn : Terms → Option World → List Event → List Output → Option World → Type 0
RunsOn w None events outputs y = Unit {0}
RunsOn w (Some x) events outputs y = (x' : World) × (y ≡ Some x') × Run w x events outputs x'

-- the events of all lives
abbrev pub events_in : List Episode → List Event
events_in [] = []
events_in (Lived events outputs ∷ later) = events ++ events_in later
events_in (Crashed terms saved ∷ later) = events_in later

-- what they were answered
abbrev pub outputs_in : List Episode → List Output
outputs_in [] = []
outputs_in (Lived events outputs ∷ later) = outputs ++ outputs_in later
outputs_in (Crashed terms saved ∷ later) = outputs_in later

-- lives with these events and answers lead from this world to that
pub record AreLives (w : Terms) (x : World) (events : List Event) (outputs : List Output)
    (y : World)
    : Type 0 where
  pub episodes : List Episode
  pub events_are : events_in episodes ≡ events
  pub outputs_are : outputs_in episodes ≡ outputs
  pub lives : Lives w x episodes w y

-- nothing is said where there is no world
abbrev pub LivesOn : Terms → Option World → List Event → List Output → Option World → Type 0
LivesOn w None events outputs y = Unit {0}
LivesOn w (Some x) events outputs None = Unit {0}
LivesOn w (Some x) events outputs (Some y) = AreLives w x events outputs y
