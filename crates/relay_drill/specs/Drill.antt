-- What a drill writes (docs/PROTOCOL.md, The call `drill`).
use Rattle.std.specs.Prelude.{◌≡◌, ℕ, Bool, List, map, vec_len, Option, Some, IfSome, Result, Ok}
use Rattle.std.specs.Prelude.{Err}
use Rattle.std.specs.Io.KnownBytes.{Appends, Keeps}
use Rattle.relay_conf.specs.declared.settings.Config.{Config}
use Rattle.relay_model.specs.Run.{Event}
use Rattle.relay_model.specs.World.{World, empty_world}
use Rattle.relay_drill.specs.Play.{Plays}
use Rattle.relay_drill.specs.Print.{Told, printed_all}
use Rattle.relay_drill.specs.Progress.{Broke, Halted, Killed}
use Rattle.std.specs.Result.{IsOk}
use Rattle.relay_drill.specs.Script.{Line, Names, script_of}
use Rattle.relay_drill.specs.Todo.{Todo, Done, first_stand, lines_ask}
use Rattle.relay_drill.specs.declared.fault.DrillError.{DrillError}
use Rattle.relay_drill.specs.declared.fault.DrillError.TheVariants.{Memory, Unreadable, Unwritten}
use Rattle.relay_drill.specs.declared.fault.DrillError.TheVariants.{Unseeded, Device, Unrepaired}
use Rattle.relay_drill.specs.declared.fault.DrillError.TheVariants as faults

-- the names that a script may use
abbrev pub names_of : Config → Names
names_of config =
    record {
      peers = map (λ peer. peer.name) config.relay.peers.items;
      buffers = map (λ buffer. buffer.name) config.buffers.buffers.items;
    }

-- the lines of a script under this configuration
abbrev pub lines_of_script : Config → List ℕ → Result (List Line) ℕ
lines_of_script config script = script_of (names_of config) script

-- what these lines ask for
abbrev pub asked_by : Config → List Line → Todo
asked_by config lines = lines_ask (vec_len config.buffers.groups) lines first_stand

-- the world before anything has come; no device has failed
abbrev pub first_world : World
first_world = empty_world (λ device. 0)

-- The whole script ran, from a relay that nothing came to, and what was told of it was written,
-- with reasons or without.
pub record Ran (reasons : Bool) (config : Config) (script : List ℕ)
    (before after : Option (List ℕ))
    : Type 0 where
  pub lines : List Line
  pub is_script : lines_of_script config script ≡ Ok lines
  pub events : List Event
  pub told : List Told
  pub world : Option World
  pub played : Plays config (asked_by config lines) (Some first_world) events told world Done
  pub written : Appends before after (printed_all reasons told)

-- of a script that says these lines some was done, and all was written that this prints; of one
-- with a bad line nothing was written
abbrev pub ScriptHalts : (reasons : Bool) → Config → Result (List Line) ℕ → Option (List ℕ)
    → Option (List ℕ) → Type 0
ScriptHalts reasons config (Ok lines) before after =
    Halted reasons config (asked_by config lines) (Some first_world) before after
ScriptHalts reasons config (Err number) before after = Keeps before after

-- of a script that says these lines some was done, and a front was written of what this prints
abbrev pub ScriptBreaks : (reasons : Bool) → Config → List ℕ → Option (List ℕ)
    → Option (List ℕ) → Type 0
ScriptBreaks reasons config script before after =
    (lines : List Line) × (lines_of_script config script ≡ Ok lines)
    × Broke reasons config (asked_by config lines) (Some first_world) before after

-- of a script that says these lines all was done that stands before a crash, and all was written
-- that this prints
abbrev pub ScriptIsKilled : (reasons : Bool) → Config → List ℕ → Option (List ℕ)
    → Option (List ℕ) → Type 0
ScriptIsKilled reasons config script before after =
    (lines : List Line) × (lines_of_script config script ≡ Ok lines)
    × Killed reasons config (asked_by config lines) (Some first_world) before after

-- what the answer says of the script and of what the writer held before and holds after, where
-- reasons are told or aren't; that the relay wasn't seeded, or a device of its failed before, is
-- said of a script without a bad line alone, and nothing was written
abbrev pub DrillGives : (reasons : Bool) → Config → Result (Unit {0}) DrillError
    → Option (List ℕ) → Option (List ℕ) → Option (List ℕ) → Type 0
DrillGives reasons config (Ok done) script before after =
    IfSome script (λ text. Ran reasons config text before after)
DrillGives reasons config (Err Memory) script before after =
    IfSome script (λ text. ScriptHalts reasons config (lines_of_script config text) before after)
DrillGives reasons config (Err Unrepaired) script before after =
    IfSome script (λ text. ScriptIsKilled reasons config text before after)
DrillGives reasons config (Err (faults.Line number)) script before after =
    IfSome script (λ text. lines_of_script config text ≡ Err number) × Keeps before after
DrillGives reasons config (Err Unreadable) script before after = Keeps before after
DrillGives reasons config (Err Unwritten) script before after =
    IfSome script (λ text. ScriptBreaks reasons config text before after)
DrillGives reasons config (Err Unseeded) script before after =
    IfSome script (λ text. IsOk (lines_of_script config text)) × Keeps before after
DrillGives reasons config (Err Device) script before after =
    IfSome script (λ text. IsOk (lines_of_script config text)) × Keeps before after
