-- What comes of lives of a relay that are served one after the other (docs/PROTOCOL.md, `reload`).
use Rattle.std.specs.Prelude.{◌≡◌, ℕ, Bool, true, false, List, Option, Result, Ok, Err, unwrap_or}
use Rattle.relay_conf.specs.declared.settings.Config.{Config}
use Rattle.relay_command.specs.Check.{HasError, IsIn}
use Rattle.relay_command.specs.Serving.{Serving}
use Rattle.relay_command.specs.declared.failure.Failure.{Failure}
use Rattle.relay_command.specs.declared.failure.Failure.TheVariants as failures
use Rattle.relay_command.specs.declared.load.CheckError.{CheckError}
use Rattle.relay_report.specs.Serve.{ServeGives}
use Rattle.relay_report.specs.declared.fault.ServeError.{ServeError}

-- What whatever serves lives says of its calls.
pub record Server : Type 1 where
  -- what serving a life may come to
  pub serves : Serving
  -- what it may answer where it is asked whether somebody wants that another life follow
  pub asked : Bool → Type 0
  -- what it may answer where it is told why the relay can't go on with another configuration
  pub told : Failure → Bool → Type 0

-- one that says nothing of them
abbrev pub anybody : Server
anybody = record {
  serves = λ config folder sessions fresh result before after. Unit {0};
  asked = λ answer. Unit {0};
  told = λ why answer. Unit {0};
}

-- A life with this configuration was served in a folder, each port of which ends after so many
-- connections, with all buffers formatted or not, and came to this.
pub record Life (server : Server) (folder : List ℕ) (sessions : Option ℕ) (config : Config)
    (fresh : Bool) (result : Result (Unit {0}) ServeError) (before after : Option (List ℕ))
    : Type 0 where
  pub comes : server.serves config folder sessions fresh result before after
  pub gives : ServeGives config result before after

-- where a relay is
pub data Point : Type 0 where
  -- a life with this configuration begins, the relay has no other, and all buffers are formatted or
  -- not
  Serves : (config : Config) (fresh : Bool) → Point
  -- a life with this configuration has ended well
  Served : (config : Config) → Point

-- Lives of the relay of a folder follow each other from a point on, and come to this. Only the life
-- of the point where they begin may format buffers.
pub data Lived (server : Server) (folder : List ℕ) (sessions : Option ℕ)
    : Point → Result (Unit {0}) ServeError → Option (List ℕ) → Option (List ℕ) → Type 0 where
  -- the life failed, and there is no other to go on with
  failed : (config : Config) (fresh : Bool) (error : ServeError) (before after : Option (List ℕ))
      → Life server folder sessions config fresh (Err error) before after
      → Lived server folder sessions (Serves config fresh) (Err error) before after
  -- it ended well
  served : (config : Config) (fresh : Bool) (result : Result (Unit {0}) ServeError)
      (before between after : Option (List ℕ))
      → Life server folder sessions config fresh (Ok tt) before between
      → Lived server folder sessions (Served config) result between after
      → Lived server folder sessions (Serves config fresh) result before after
  -- behind one that ended well nobody wants that another follow
  ended : (config : Config) (held : Option (List ℕ)) → server.asked false
      → Lived server folder sessions (Served config) (Ok tt) held held
  -- somebody does, and one with the configuration in the folder ended well
  changed : (config next : Config) (result : Result (Unit {0}) ServeError)
      (before between after : Option (List ℕ)) → server.asked true → IsIn folder next
      → Life server folder sessions next false (Ok tt) before between
      → Lived server folder sessions (Served next) result between after
      → Lived server folder sessions (Served config) result before after
  -- it failed, and the relay doesn't go on
  lost : (config next : Config) (error : ServeError) (before after : Option (List ℕ))
      → server.asked true → IsIn folder next
      → Life server folder sessions next false (Err error) before after
      → server.told (failures.Serve error) false
      → Lived server folder sessions (Served config) (Err error) before after
  -- it failed, and the relay goes on as it was
  refused : (config next : Config) (error : ServeError) (result : Result (Unit {0}) ServeError)
      (before between after : Option (List ℕ)) → server.asked true → IsIn folder next
      → Life server folder sessions next false (Err error) before between
      → server.told (failures.Serve error) true
      → Lived server folder sessions (Serves config false) result between after
      → Lived server folder sessions (Served config) result before after
  -- the configuration in the folder is at fault, and the relay goes on as it was, whatever it
  -- answers that is told so
  kept : (config : Config) (error : CheckError) (answer : Bool)
      (result : Result (Unit {0}) ServeError) (before after : Option (List ℕ))
      → server.asked true → HasError folder error → server.told (failures.Check error) answer
      → Lived server folder sessions (Serves config false) result before after
      → Lived server folder sessions (Served config) result before after

-- STEP BY STEP

-- What came of a turn from a point on, at which the relay goes on with a configuration: a life ended
-- well, with the next configuration where there is one, else with this, and whatever comes of the
-- relay behind that is what comes of it from the point on; or all have ended with an error.
abbrev pub TurnGives : Server → (folder : List ℕ) (sessions : Option ℕ) → Point → Config
    → Result (Option Config) ServeError → (before between : Option (List ℕ)) → Type 0
TurnGives server folder sessions point config (Ok next) before between =
    (result : Result (Unit {0}) ServeError) (after : Option (List ℕ))
    → Lived server folder sessions (Served (unwrap_or next config)) result between after
    → Lived server folder sessions point result before after
TurnGives server folder sessions point config (Err error) before after =
    Lived server folder sessions point (Err error) before after

-- why a life failed was told: the relay goes on as it was, or it doesn't, and that is the error
abbrev pub IsToldRefused : Server → ServeError → Result (Unit {0}) ServeError → Type 0
IsToldRefused server error (Ok done) = server.told (failures.Serve error) true
IsToldRefused server error (Err again) =
    (again ≡ error) × server.told (failures.Serve error) false
