-- What a drill answers, by what its parts answered.
use Rattle.std.proofs.Common.{◌≡◌, ℕ, Bool, List, [], ◌∷◌, All, Option, Some, None, Result, Ok, Err}
use Rattle.std.proofs.Common.{refl, subst, sym, arith, slice_get, zero, suc}
use Rattle.std.specs.Prelude.{IfSome}
use Rattle.std.specs.Option.{option_map, unwrap_or}
use Rattle.std.specs.Result.{IsErr, IsErrAnd, IsOk}
use Rattle.block_shelf.specs.Filling.{failures_in}
use Rattle.cyc_block.specs.declared.store.BlockStore.{Ghosts}
use Rattle.relay_conf.specs.declared.cycbuff.BufferConf.{BufferConf}
use Rattle.relay_conf.specs.declared.settings.Config.{Config}
use Rattle.relay_core.specs.Agreement.{AgreesLeft}
use Rattle.relay_core.specs.Beginning.{BeginsOver}
use Rattle.relay_core.specs.declared.system.System.{System}
use Rattle.relay_model.specs.World.{empty_world}
use Rattle.relay_drill.specs.Drill.{DrillGives, ScriptHalts, asked_by}
use Rattle.relay_drill.specs.Drill.{first_world}
use Rattle.relay_drill.specs.Drill.{lines_of_script}
use Rattle.relay_drill.specs.Fault.{FailGives, ReadGives, ScriptGives, told_as}
use Rattle.relay_drill.specs.Fault.{unbegun_as}
use Rattle.block_shelf.specs.declared.beginning.BeginError.{BeginError}
use Rattle.block_shelf.specs.declared.beginning.BeginError.TheVariants as begins
use Rattle.std.specs.IoError.{error_kind}
use Rattle.std.specs.declared.io.ErrorKind.{ErrorKind}
use Rattle.std.specs.declared.io.ErrorKind.TheVariants.{OutOfMemory}
use Rattle.std.proofs.Common.{◌⊎◌, inl, inr}
use Rattle.relay_drill.specs.Play.{Rests}
use Rattle.relay_drill.specs.Progress.{Broke, Halted, Killed, Leads, Under, Went}
use Rattle.relay_drill.specs.Script.{Line}
use Rattle.relay_drill.specs.Stores.{AreStoresOf}
use Rattle.relay_drill.specs.Todo.{Done}
use Rattle.relay_drill.specs.declared.fault.DrillError.{DrillError}
use Rattle.relay_drill.specs.declared.fault.DrillError.TheVariants.{Memory, Unreadable, Unwritten}
use Rattle.relay_drill.specs.declared.fault.DrillError.TheVariants.{Unseeded, Device, Unrepaired}
use Rattle.relay_drill.specs.declared.fault.DrillError.TheVariants as faults
use Rattle.relay_drill.specs.declared.line.Line as code
use Rattle.relay_drill.specs.declared.life.Life.{Life}
use Rattle.relay_drill.proofs.Courses.{fail_map}
use Rattle.relay_report.proofs.Writes.{appends_none, keeps_same}

-- What holds of every text holds of a script that is known.
if_known : (script : Option (List ℕ)) (P : List ℕ → Type 0) → ((text : List ℕ) → P text)
    → IfSome script P
if_known None P holds = tt
if_known (Some text) P holds = holds text

-- Before anything was done nothing is written.
halted_at_once : (reasons : Bool) (config : Config) (says : Result (List Line) ℕ)
    (held : Option (List ℕ)) → ScriptHalts reasons config says held held
halted_at_once reasons config (Ok lines) held =
    record {
      events = [];
      told = [];
      world = Some first_world;
      left = asked_by config lines;
      plays = Rests (asked_by config lines) (Some first_world);
      gained = appends_none held;
    }
halted_at_once reasons config (Err number) held = keeps_same held

-- Memory that ran out before anything was done is said with nothing written.
pub memory_at_once : (reasons : Bool) (config : Config) (script held : Option (List ℕ))
    → DrillGives reasons config (Err Memory) script held held
memory_at_once reasons config script held =
    if_known script _ (λ text. halted_at_once reasons config (lines_of_script config text) held)

-- An error that is passed on says what it said.
pub passed : (reasons : Bool) (config : Config) (error : DrillError)
    (result : Result (Unit {0}) DrillError) (script before after : Option (List ℕ)) → IsErr result
    → IsErrAnd result (λ e. e ≡ error) → DrillGives reasons config (Err error) script before after
    → DrillGives reasons config result script before after
passed reasons config error (Ok done) script before after is e gives = absurd (cc is)
passed reasons config error (Err same) script before after is e gives =
    let P : DrillError → Type 0 = λ it. DrillGives reasons config (Err it) script before after in
    subst P (sym e) gives

-- A reader's error ends the drill with nothing written.
pub unread : (reasons : Bool) {T : Type 0} (items : T → List ℕ) (config : Config)
    (error : DrillError) (result : Result (Unit {0}) DrillError) (script held : Option (List ℕ))
    → IsErr result → IsErrAnd result (λ e. e ≡ error) → ReadGives items (Err error) script
    → DrillGives reasons config result script held held
unread reasons items config Memory result script held is e read =
    passed reasons config Memory result script held held is e
    (memory_at_once reasons config script held)
unread reasons items config Unreadable result script held is e read =
    passed reasons config Unreadable result script held held is e (keeps_same held)
unread reasons items config (faults.Line number) result script held is e read = absurd read
unread reasons items config Unwritten result script held is e read = absurd read
unread reasons items config Unseeded result script held is e read = absurd read
unread reasons items config Device result script held is e read = absurd read
unread reasons items config Unrepaired result script held is e read = absurd read

-- A bad line ends the drill with nothing written.
pub bad_line : (reasons : Bool) {L : Type 0} (items : L → List code.Line) (config : Config)
    (error : DrillError) (result : Result (Unit {0}) DrillError) (script : Option (List ℕ))
    (text : List ℕ) (held : Option (List ℕ)) → IsErr result → IsErrAnd result (λ e. e ≡ error)
    → IfSome script (λ all. text ≡ all) → ScriptGives items (Err error)
    (lines_of_script config text) → DrillGives reasons config result script held held
bad_line reasons items config Memory result script text held is e read gives =
    passed reasons config Memory result script held held is e
    (memory_at_once reasons config script held)
bad_line reasons items config (faults.Line number) result None text held is e read gives =
    passed reasons config (faults.Line number) result None held held is e (tt, keeps_same held)
bad_line reasons items config (faults.Line number) result (Some all) text held is e read gives =
    passed reasons config (faults.Line number) result (Some all) held held is e
    (rw (← read) gives, keeps_same held)
bad_line reasons items config Unreadable result script text held is e read gives = absurd gives
bad_line reasons items config Unwritten result script text held is e read gives = absurd gives
bad_line reasons items config Unseeded result script text held is e read gives = absurd gives
bad_line reasons items config Device result script text held is e read gives = absurd gives
bad_line reasons items config Unrepaired result script text held is e read gives = absurd gives

-- a relay that can't begin wants memory, or numbers to seed it with
unbegun_or : (kind : ErrorKind) → (unbegun_as kind ≡ Memory) ⊎ (unbegun_as kind ≡ Unseeded)
unbegun_or OutOfMemory = inl refl
unbegun_or kind = inr refl

-- a script whose lines were read has no bad one
good_script : (config : Config) (script : Option (List ℕ)) (text : List ℕ) (lines : List Line)
    → IfSome script (λ all. text ≡ all) → lines_of_script config text ≡ Ok lines
    → IfSome script (λ all. IsOk (lines_of_script config all))
good_script config None text lines read says = tt
good_script config (Some all) text lines read says = rw (← read, says) refl

-- A host that can't let a relay begin ends the drill of a script without a bad line, with nothing
-- written.
host_failed : (reasons : Bool) (config : Config) (kind : ErrorKind) (script held : Option (List ℕ))
    (text : List ℕ) (lines : List Line) → IfSome script (λ all. text ≡ all)
    → lines_of_script config text ≡ Ok lines
    → DrillGives reasons config (Err (unbegun_as kind)) script held held
host_failed reasons config kind script held text lines read says =
    let P : DrillError → Type 0 = λ it. DrillGives reasons config (Err it) script held held in
    elim (unbegun_or kind) [
      | inl memory ↦ subst P (sym memory) (memory_at_once reasons config script held)
      | inr seed ↦ subst P (sym seed)
          (good_script config script text lines read says, keeps_same held)
    ]

-- So does a relay that doesn't begin, whether by its host or by a device.
begun_not : (reasons : Bool) {S : Type 0} (config : Config) (why : BeginError S)
    (script held : Option (List ℕ)) (text : List ℕ) (lines : List Line)
    → IfSome script (λ all. text ≡ all) → lines_of_script config text ≡ Ok lines
    → DrillGives reasons config (Err (told_as why)) script held held
begun_not reasons config (begins.Host why) script held text lines read says =
    host_failed reasons config (error_kind why) script held text lines read says
begun_not reasons config (begins.Device number store) script held text lines read says =
    (good_script config script text lines read says, keeps_same held)

pub unbegun : (reasons : Bool) {S : Type 0} (config : Config) (why : BeginError S)
    (error : DrillError) (script held : Option (List ℕ)) (text : List ℕ) (lines : List Line)
    → error ≡ told_as why → IfSome script (λ all. text ≡ all)
    → lines_of_script config text ≡ Ok lines
    → DrillGives reasons config (Err error) script held held
unbegun reasons config why error script held text lines is read says =
    let P : DrillError → Type 0 = λ it. DrillGives reasons config (Err it) script held held in
    subst P (sym is) (begun_not reasons config why script held text lines read says)

-- Where no device of these has failed, none has.
none_failed : {S : Type 0} (failures : S → ℕ) (stores : List S)
    → All (λ store. failures store ≡ 0) stores → (b : ℕ)
    → unwrap_or (option_map failures (slice_get stores b)) 0 ≡ 0
none_failed failures [] well b = refl
none_failed failures (store ∷ stores) well zero = well zero store (omega arith)
none_failed failures (store ∷ stores) well (suc b) =
    none_failed failures stores (λ k d below. well (suc k) d (omega (arith, below))) b

module _ {S : Type 0} {g : Ghosts S} where
  -- Over stores that are as new a relay agrees with the first world.
  pub begun : (config : Config) (buffers : List BufferConf) (stores : List S)
      (relay : System S g) → AreStoresOf g buffers stores → BeginsOver config stores relay
      → Under config relay first_world
  begun config buffers stores relay made begins =
      let none : failures_in g stores ≡ (λ device. 0) =
      λ i device. none_failed g.failures stores made.well device i in
      record {
        configured = sym begins.config_is;
        agrees = subst (λ (failures : ℕ → ℕ). AgreesLeft relay (empty_world failures)) none
            (begins.leaves made.fresh);
      }

  -- Where the lines were read and then played, what is said of every world is said of the first,
  -- and is the drill's.
  drill_ends : (reasons : Bool) (config : Config) (new : System S g) (script : Option (List ℕ))
      (text : List ℕ) (lines : List Line) (before after : Option (List ℕ))
      → IfSome script (λ all. text ≡ all) → lines_of_script config text ≡ Ok lines
      → Went reasons config (asked_by config lines) Done (Some first_world) new before after
      → DrillGives reasons config (Ok tt) script before after
  drill_ends reasons config new None text lines before after is says went = tt
  drill_ends reasons config new (Some all) text lines before after is says went =
      record {
        lines = lines;
        is_script = rw (← is) says;
        events = went.events;
        told = went.told;
        world = went.world;
        played = went.plays;
        written = went.gained;
      }

-- So it is where something of that failed.
drill_fails : (reasons : Bool) (config : Config) (error : DrillError) (script : Option (List ℕ))
    (text : List ℕ) (lines : List Line) (before after : Option (List ℕ))
    → IfSome script (λ all. text ≡ all) → lines_of_script config text ≡ Ok lines
    → FailGives error
    (Halted reasons config (asked_by config lines) (Some first_world) before after)
    (Broke reasons config (asked_by config lines) (Some first_world) before after)
    (Killed reasons config (asked_by config lines) (Some first_world) before after)
    → DrillGives reasons config (Err error) script before after
drill_fails reasons config Memory None text lines before after is says halted = tt
drill_fails reasons config Memory (Some all) text lines before after is says halted =
    let same : lines_of_script config all ≡ Ok lines = rw (← is) says in
    let P : Result (List Line) ℕ → Type 0 = λ said. ScriptHalts reasons config said before after in
    subst P (sym same) halted
drill_fails reasons config Unrepaired None text lines before after is says killed = tt
drill_fails reasons config Unrepaired (Some all) text lines before after is says killed =
    (lines, rw (← is) says, killed)
drill_fails reasons config Unwritten None text lines before after is says broke = tt
drill_fails reasons config Unwritten (Some all) text lines before after is says broke =
    (lines, rw (← is) says, broke)
drill_fails reasons config (faults.Line number) script text lines before after is says went =
    absurd went
drill_fails reasons config Unreadable script text lines before after is says went = absurd went
drill_fails reasons config Unseeded script text lines before after is says went = absurd went
drill_fails reasons config Device script text lines before after is says went = absurd went

-- What is said of every world that a life agreed with is said of the first world: all was done,
pub drill_done : (reasons : Bool) (config : Config) (result : Result Life DrillError)
    (script : Option (List ℕ)) (text : List ℕ) (lines : List Line) (life new : Life)
    (before after : Option (List ℕ)) → IfSome script (λ all. text ≡ all)
    → lines_of_script config text ≡ Ok lines
    → Leads reasons result (asked_by config lines) Done life before after
    → Under config life.relay first_world → result ≡ Ok new
    → DrillGives reasons config (Ok tt) script before after
drill_done reasons config result script text lines life new before after is says leads under done =
    let P : Result Life DrillError → Type 0 = λ it.
    Leads reasons it (asked_by config lines) Done life before after in
    drill_ends reasons config new.relay script text lines before after is says
    (subst P done leads config (Some first_world) under)

-- or something failed.
pub drill_stops : (reasons : Bool) (config : Config) (result : Result Life DrillError)
    (script : Option (List ℕ)) (text : List ℕ) (lines : List Line) (life : Life)
    (error : DrillError) (before after : Option (List ℕ)) → IfSome script (λ all. text ≡ all)
    → lines_of_script config text ≡ Ok lines
    → Leads reasons result (asked_by config lines) Done life before after
    → Under config life.relay first_world → result ≡ Err error
    → DrillGives reasons config (Err error) script before after
drill_stops reasons config result script text lines life error before after is says leads under
    fails =
    let P : Result Life DrillError → Type 0 = λ it.
    Leads reasons it (asked_by config lines) Done life before after in
    drill_fails reasons config error script text lines before after is says
    (fail_map error (λ halts. halts config (Some first_world) under)
    (λ breaks. breaks config (Some first_world) under)
    (λ kills. kills config (Some first_world) under) (subst P fails leads))
