-- What a call that asks was handed, and what is told where it isn't heard.
use Rattle.std.proofs.Common.{◌≡◌, ℕ, List, Option, Result, Ok, Err, refl, subst, true}
use denote.Ref.{Bor}
use Rattle.std.specs.Global.{Vec}
use Rattle.std.specs.IoError.{error_kind}
use Rattle.std.specs.declared.io.Error.{Error}
use Rattle.std.specs.declared.io.ErrorKind.{ErrorKind}
use Rattle.std.specs.declared.io.ErrorKind.TheVariants.{ConnectionRefused, NotFound, OutOfMemory}
use Rattle.relay_command.specs.Ask.{Answered, Asking, AsksIn, IsUnheard, ReloadsIn, TellsReload}
use Rattle.relay_command.specs.Ask.{is_made, not_asked, not_formed}
use Rattle.relay_command.specs.declared.ask.AskError.{AskError}
use Rattle.relay_command.specs.declared.ask.AskError.TheVariants.{Memory, Refused, Unserved}
use Rattle.relay_command.specs.declared.ask.AskError.TheVariants.{Unusable, Unwritten}
use Rattle.relay_command.specs.declared.ask.Form.{Form}
use Rattle.relay_command.specs.declared.ask.Form.TheVariants.{Told}
use Rattle.relay_command.specs.declared.ask.Request.{Request}
use Rattle.relay_command.specs.declared.ask.Request.TheVariants.{Reload}
use Rattle.relay_command.proofs.Checks.{keeps_same}

-- What `post` says of a call is what the call was handed, and its answer.
pub answered : (post : Bor (List ℕ) → Request → Result (Vec ℕ) Error → Type 0)
    (folder : Bor (List ℕ)) (request : Request) (answer : Result (Vec ℕ) Error)
    → post folder request answer → Answered post folder.now request answer
answered post folder request answer posts = record {
  named = folder;
  posts = posts;
  of_folder = refl;
}

-- That the writer failed is no reason why a relay isn't heard.
not_unheard : (folder : List ℕ) (kind : ErrorKind) → IsUnheard folder kind Unwritten → ⊥
not_unheard folder OutOfMemory is = cc
not_unheard folder NotFound is = is
not_unheard folder ConnectionRefused is = is
not_unheard folder kind is = cc

-- Where a relay isn't heard, that is told and nothing is written.
pub unheard : (asking : Asking) (folder : List ℕ) (request : Request) (form : Form)
    (failure : Error) (kind : ErrorKind) (error : AskError) (held : Option (List ℕ))
    → asking folder request (Err failure) → kind ≡ error_kind failure → IsUnheard folder kind error
    → AsksIn asking folder request form (Err error) held held
unheard asking folder request form failure kind Unwritten held asked same is =
    absurd (not_unheard folder kind is)
unheard asking folder request form failure kind error held asked same is = (
  not_asked failure asked (subst (λ k. IsUnheard folder k error) same is),
  keeps_same held,
)

-- Where there is no memory for what is made of it, that is told and nothing is written.
pub unformed : (asking : Asking) (folder : List ℕ) (request : Request) (form : Form) (told : Vec ℕ)
    (held : Option (List ℕ)) → asking folder request (Ok told)
    → is_made form ≡ true
    → AsksIn asking folder request form (Err Memory) held held
unformed asking folder request form told held asked is =
    (not_formed told asked is refl, keeps_same held)

-- What a relay told that was asked to reload is what asking it answers.
pub reload_told : (asking : Asking) (folder : List ℕ) (told : Vec ℕ)
    (result : Result (Unit {0}) AskError) (before after : Option (List ℕ))
    → asking folder Reload (Ok told) → TellsReload told.items result before after
    → ReloadsIn asking folder result before after
reload_told asking folder told (Ok done) before after asked tells = (told, asked, tells)
reload_told asking folder told (Err Refused) before after asked tells = (told, asked, tells)
reload_told asking folder told (Err Unwritten) before after asked tells = (told, asked, tells)
reload_told asking folder told (Err Memory) before after asked tells = absurd tells
reload_told asking folder told (Err Unusable) before after asked tells = absurd tells
reload_told asking folder told (Err (Unserved name)) before after asked tells = absurd tells

-- That a relay refused is no reason why it isn't heard.
not_refused : (folder : List ℕ) (kind : ErrorKind) → IsUnheard folder kind Refused → ⊥
not_refused folder OutOfMemory is = cc
not_refused folder NotFound is = is
not_refused folder ConnectionRefused is = is
not_refused folder kind is = cc

-- Where a relay isn't heard that was to reload, that is told and nothing is written.
pub reload_unheard : (asking : Asking) (folder : List ℕ) (failure : Error) (kind : ErrorKind)
    (error : AskError) (held : Option (List ℕ)) → asking folder Reload (Err failure)
    → kind ≡ error_kind failure → IsUnheard folder kind error
    → ReloadsIn asking folder (Err error) held held
reload_unheard asking folder failure kind Refused held asked same is =
    absurd (not_refused folder kind is)
reload_unheard asking folder failure kind Memory held asked same is =
    unheard asking folder Reload Told failure kind Memory held asked same is
reload_unheard asking folder failure kind Unusable held asked same is =
    unheard asking folder Reload Told failure kind Unusable held asked same is
reload_unheard asking folder failure kind Unwritten held asked same is =
    unheard asking folder Reload Told failure kind Unwritten held asked same is
reload_unheard asking folder failure kind (Unserved name) held asked same is =
    unheard asking folder Reload Told failure kind (Unserved name) held asked same is
