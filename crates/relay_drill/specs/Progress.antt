-- How far the code has come with a script: what contracts of private functions say.
use Rattle.std.specs.Prelude.{◌≡◌, ℕ, Bool, true, List, [], ◌∷◌, ◌++◌, Option, None, Some}
use Rattle.std.specs.Prelude.{option_map}
use Rattle.std.specs.Prelude.{Result}
use Rattle.std.specs.Io.KnownBytes.{Appends}
use Rattle.cyc_block.specs.declared.store.BlockStore.{Ghosts}
use Rattle.relay_conf.specs.declared.settings.Config.{Config}
use Rattle.relay_core.specs.Agreement.{AgreesLeft}
use Rattle.relay_core.specs.declared.system.System.{System}
use Rattle.relay_model.specs.Run.{Event}
use Rattle.relay_model.specs.World.{World}
use Rattle.relay_drill.specs.declared.fault.DrillError.{DrillError}
use Rattle.relay_drill.specs.declared.fault.Ended.{Ended}
use Rattle.relay_drill.specs.declared.line.PieceSize.{PieceSize}
use Rattle.relay_drill.specs.declared.life.Life.{Life}
use Rattle.relay_drill.specs.declared.manner.Stand.{Stand}
use Rattle.relay_drill.specs.Fault.{DoGives, PlayGives}
use Rattle.relay_drill.specs.Play.{Plays}
use Rattle.relay_drill.specs.Print.{Told, printed_all, told_text}
use Rattle.relay_drill.specs.Todo as todo
use Rattle.relay_drill.specs.Todo.{Todo, Crashing, behind_cut}
use Rattle.relay_report.specs.Written.{GainsFront}

-- the relay has this configuration, and agrees with this world; a crash may leave its stores
pub record Under {S : Type 0} {g : Ghosts S} (config : Config) (relay : System S g) (x : World)
    : Type 0 where
  pub configured : config ≡ relay.config
  pub agrees : AgreesLeft relay x

-- it does with the world that there is; where nothing is said any more there is none
abbrev pub Follows : {S : Type 0} {g : Ghosts S} → Config → System S g → Option World → Type 0
Follows config relay None = Unit {0}
Follows config relay (Some x) = Under config relay x

-- From this world what stands before this was done, the relay agrees with the world after it, and
-- the writer gained what that prints, with reasons or without.
pub record Went {S : Type 0} {g : Ghosts S} (reasons : Bool) (config : Config) (from to : Todo)
    (x : Option World) (relay : System S g) (before after : Option (List ℕ))
    : Type 0 where
  pub events : List Event
  pub told : List Told
  pub world : Option World
  pub plays : Plays config from x events told world to
  pub follows : Follows config relay world
  pub gained : Appends before after (printed_all reasons told)

-- From this world some of it was done, and the writer gained all that this prints.
pub record Halted (reasons : Bool) (config : Config) (from : Todo) (x : Option World)
    (before after : Option (List ℕ))
    : Type 0 where
  pub events : List Event
  pub told : List Told
  pub world : Option World
  pub left : Todo
  pub plays : Plays config from x events told world left
  pub gained : Appends before after (printed_all reasons told)

-- From this world some of it was done, and the writer gained what that prints up to the last thing
-- told, and of this one a front.
pub record Broke (reasons : Bool) (config : Config) (from : Todo) (x : Option World)
    (before after : Option (List ℕ))
    : Type 0 where
  pub events : List Event
  pub told : List Told
  pub last : Told
  pub world : Option World
  pub left : Todo
  pub plays : Plays config from x events (told ++ last ∷ []) world left
  pub mid : Option (List ℕ)
  pub gained : Appends before mid (printed_all reasons told)
  pub written : GainsFront (told_text reasons last) mid after

-- From this world all was done that stands before a crash, and the writer gained all that this
-- prints.
pub record Killed (reasons : Bool) (config : Config) (from : Todo) (x : Option World)
    (before after : Option (List ℕ))
    : Type 0 where
  pub events : List Event
  pub told : List Told
  pub world : Option World
  pub moment : ℕ
  pub more : Todo
  pub plays : Plays config from x events told world (Crashing moment more)
  pub gained : Appends before after (printed_all reasons told)

-- from whatever world the relay agreed with
abbrev pub Goes : {S : Type 0} {g : Ghosts S} → (reasons : Bool) → (from to : Todo)
    → (old new : System S g) → (before after : Option (List ℕ)) → Type 0
Goes reasons from to old new before after =
    (config : Config) (x : Option World) → Follows config old x
    → Went reasons config from to x new before after

abbrev pub Halts : {S : Type 0} {g : Ghosts S} → (reasons : Bool) → (from : Todo)
    → (old : System S g) → (before after : Option (List ℕ)) → Type 0
Halts reasons from old before after =
    (config : Config) (x : Option World) → Follows config old x
    → Halted reasons config from x before after

abbrev pub Breaks : {S : Type 0} {g : Ghosts S} → (reasons : Bool) → (from : Todo)
    → (old : System S g) → (before after : Option (List ℕ)) → Type 0
Breaks reasons from old before after =
    (config : Config) (x : Option World) → Follows config old x
    → Broke reasons config from x before after

abbrev pub Kills : {S : Type 0} {g : Ghosts S} → (reasons : Bool) → (from : Todo)
    → (old : System S g) → (before after : Option (List ℕ)) → Type 0
Kills reasons from old before after =
    (config : Config) (x : Option World) → Follows config old x
    → Killed reasons config from x before after

-- a crash was ahead, and the power went before this was reached: from whatever world the relay
-- agreed with all was done up to where that is repaired
abbrev pub Loses : {S : Type 0} {g : Ghosts S} → (reasons armed : Bool) → (from to : Todo)
    → (old new : System S g) → (before after : Option (List ℕ)) → Type 0
Loses reasons armed from to old new before after =
    (armed ≡ true)
    × ((cut : Todo) → behind_cut to ≡ Some cut → Goes reasons from cut old new before after)

-- the answer says that all was done that stands before this, that it was broken off, or that the
-- power went
abbrev pub Performs : {S : Type 0} {g : Ghosts S} → (reasons armed : Bool)
    → Result (Unit {0}) Ended → (from to : Todo) → (old new : System S g)
    → (before after : Option (List ℕ)) → Type 0
Performs reasons armed result from to old new before after =
    DoGives result (λ fine. Goes reasons from to old new before after)
    (Halts reasons from old before after) (Breaks reasons from old before after)
    (Kills reasons from old before after) (Loses reasons armed from to old new before after)

-- so it does of a relay that is handed on
abbrev pub Leads : (reasons : Bool) → Result Life DrillError → (from to : Todo) → (old : Life)
    → (before after : Option (List ℕ)) → Type 0
Leads reasons result from to old before after =
    PlayGives result (λ new. Goes reasons from to old.relay new.relay before after)
    (Halts reasons from old.relay before after) (Breaks reasons from old.relay before after)
    (Kills reasons from old.relay before after)

-- how a drill stands, in the definitions
abbrev pub stand_view : Stand → todo.Stand
stand_view stand =
    record {
      sessions = stand.sessions.items;
      piece = option_map (λ (size : PieceSize). size.octets) stand.piece;
      moment = stand.moment;
    }
