-- What a relay that is served is asked for, and how it answers (docs/PROTOCOL.md, `stop` and
-- `report`, `pause` and `go`, `reload`).
use Rattle.std.specs.Prelude.{◌≡◌, ◌≢◌, ℕ, Bool, true, false, List, ◌++◌, codes, string_bytes}
use Rattle.std.specs.Prelude.{Option, Result, Ok, Err}
use denote.Ref.{Bor}
use Rattle.std.specs.Global.{Vec}
use Rattle.std.specs.IoError.{error_kind}
use Rattle.std.specs.Io.KnownBytes.{Appends, Keeps}
use Rattle.std.specs.declared.io.Error as io
use Rattle.std.specs.declared.io.ErrorKind.{ErrorKind}
use Rattle.std.specs.declared.io.ErrorKind.TheVariants.{ConnectionRefused, NotFound, OutOfMemory}
use Rattle.relay_report.specs.Written.{GainsFront}
use Rattle.relay_command.specs.declared.ask.AskError.{AskError}
use Rattle.relay_command.specs.declared.ask.AskError.TheVariants.{Memory, Unserved, Unusable}
use Rattle.relay_command.specs.declared.ask.AskError.TheVariants.{Refused, Unwritten}
use Rattle.relay_command.specs.declared.ask.Form.{Form}
use Rattle.relay_command.specs.declared.ask.Form.TheVariants.{Metrics, Page, Told}
use Rattle.relay_command.specs.declared.ask.Request.{Request}
use Rattle.relay_command.specs.declared.ask.Request.TheVariants.{Reload}
use Rattle.relay_metrics.specs.Exposition.{exposition_of}
use Rattle.relay_page.specs.Page.{page_of}

-- what asking may come to: of the folder in which a relay is served, and of what it is asked for,
-- what it tells, or the system's error
abbrev pub Asking : Type 1
Asking = (folder : List ℕ) → Request → Result (Vec ℕ) io.Error → Type 0

-- A call that asks was handed this folder and this request, and gave this answer: `post` says so of
-- the call.
pub record Answered (post : Bor (List ℕ) → Request → Result (Vec ℕ) io.Error → Type 0)
    (folder : List ℕ) (request : Request) (answer : Result (Vec ℕ) io.Error) : Type 0 where
  pub named : Bor (List ℕ)
  pub posts : post named request answer
  pub of_folder : named.now ≡ folder

-- the text of an error, without the line's end
abbrev pub ask_text : AskError → List ℕ
ask_text (Unserved folder) = string_bytes folder ++ codes ": no relay is served there"
ask_text Unusable = codes "control: unusable"
ask_text Memory = codes "out of memory"
ask_text Unwritten = codes "stdout: unwritten"
ask_text Refused = codes "refused: the relay goes on as it was"

-- the error says that no relay is served in this folder, or that there was no memory to say so
abbrev pub IsUnserved : (folder : List ℕ) → AskError → Type 0
IsUnserved folder (Unserved name) = string_bytes name ≡ folder
IsUnserved folder Unusable = ⊥
IsUnserved folder Memory = Unit {0}
IsUnserved folder Unwritten = ⊥
IsUnserved folder Refused = ⊥

-- why a relay can't be asked: memory ran out, or there is no socket in the folder or nobody hears
-- at it, or the socket can't be had or failed (docs/PROTOCOL.md, Statuses)
abbrev pub IsUnheard : (folder : List ℕ) → ErrorKind → AskError → Type 0
IsUnheard folder OutOfMemory error = error ≡ Memory
IsUnheard folder NotFound error = IsUnserved folder error
IsUnheard folder ConnectionRefused error = IsUnserved folder error
IsUnheard folder kind error = error ≡ Unusable

-- what was told, as it is printed in this form (docs/FORMATS.md, Metrics, Page)
abbrev pub formed : Form → (told : List ℕ) → List ℕ
formed Told told = told
formed Metrics told = exposition_of told
formed Page told = page_of told

-- what is printed in this form is made of what was told
abbrev pub is_made : Form → Bool
is_made Told = false
is_made Metrics = true
is_made Page = true

-- why nothing is told of what a relay was asked for, to be printed in this form
pub data IsUntold (asking : Asking) (folder : List ℕ) (request : Request) (form : Form)
    (error : AskError) : Type 0 where
  -- it could not be asked
  not_asked : (failure : io.Error) → asking folder request (Err failure)
      → IsUnheard folder (error_kind failure) error → IsUntold asking folder request form error
  -- it told something, and there was no memory for what is made of that
  not_formed : (told : Vec ℕ) → asking folder request (Ok told) → is_made form ≡ true
      → error ≡ Memory → IsUntold asking folder request form error

-- What asking a relay that is served in a folder answers: what it told was written in this form, or
-- the writer failed, with a front of it; or there is nothing to tell, and nothing was written.
abbrev pub AsksIn : Asking → (folder : List ℕ) → Request → Form → Result (Unit {0}) AskError
    → (before after : Option (List ℕ)) → Type 0
AsksIn asking folder request form (Ok done) before after =
    (told : Vec ℕ) × asking folder request (Ok told)
    × Appends before after (formed form told.items)
AsksIn asking folder request form (Err Unwritten) before after =
    (told : Vec ℕ) × asking folder request (Ok told)
    × GainsFront (formed form told.items) before after
AsksIn asking folder request form (Err error) before after =
    IsUntold asking folder request form error × Keeps before after

-- what a relay tells that goes on with the configuration as it is now (docs/PROTOCOL.md, `reload`)
abbrev pub reloaded_line : List ℕ
reloaded_line = codes "reloaded\n"

-- What a relay told that was to reload was written, and that it did where it told just that, or
-- that it refused where it told anything else, or nothing; or the writer failed, with a front of
-- what it told.
abbrev pub TellsReload : (told : List ℕ) → Result (Unit {0}) AskError
    → (before after : Option (List ℕ)) → Type 0
TellsReload told (Ok done) before after = (told ≡ reloaded_line) × Appends before after told
TellsReload told (Err Refused) before after = (told ≢ reloaded_line) × Appends before after told
TellsReload told (Err Unwritten) before after = GainsFront told before after
TellsReload told (Err error) before after = ⊥

-- What asking a relay to reload answers that is served in a folder: it told something, and that was
-- told; or it could not be asked, and nothing was written.
abbrev pub ReloadsIn : Asking → (folder : List ℕ) → Result (Unit {0}) AskError
    → (before after : Option (List ℕ)) → Type 0
ReloadsIn asking folder (Ok done) before after =
    (told : Vec ℕ) × asking folder Reload (Ok told) × TellsReload told.items (Ok done) before after
ReloadsIn asking folder (Err Refused) before after =
    (told : Vec ℕ) × asking folder Reload (Ok told)
    × TellsReload told.items (Err Refused) before after
ReloadsIn asking folder (Err error) before after =
    AsksIn asking folder Reload Told (Err error) before after
