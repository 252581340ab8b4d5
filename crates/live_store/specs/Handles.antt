-- What a writer holds of its article.
use Rattle.std.specs.Prelude.{◌≡◌, ◌≤◌, ◌^◌, ◌⊎◌, ℕ, Bool, List, length, Result, Ok, Err}
use Rattle.boxcar.specs.Table.{Where}
use Rattle.cyc_buffer.specs.declared.answers.BufError.{BufError}
use Rattle.cyc_buffer.specs.declared.answers.BufError.TheVariants as errors
use Rattle.cyc_buffer.specs.declared.answers.Fault.{Fault}
use Rattle.cyc_token.specs.declared.Token.{Token}
use Rattle.live_store.specs.declared.steps.entered.Entered.{Entered}
use Rattle.cyc_buffer.specs.declared.answers.FaultKind.TheVariants as kinds
use Rattle.live_store.specs.declared.steps.handles.Conflict.{Conflict}
use Rattle.live_store.specs.declared.steps.handles.ConflictCause.{ConflictCause}
use Rattle.live_store.specs.declared.steps.handles.ConflictCause.TheVariants as causes
use Rattle.live_store.specs.declared.writing.entering.Begun.{Begun}
use Rattle.live_store.specs.declared.writing.entering.Record.{Record}
use Rattle.news_terms.specs.Places.{size_of}

-- the token that was begun
abbrev pub begun_token : Begun → Token
begun_token begun = begun.token

-- whether it was begun at the front of a cycle
abbrev pub begun_fresh : Begun → Bool
begun_fresh begun = begun.fresh

-- the number of the record
abbrev pub shown_of : Entered → Where Record
shown_of entered = entered.shown

-- how many blocks were written with it
abbrev pub written_with : Entered → ℕ
written_with entered = entered.written

-- how many blocks its article takes
abbrev pub blocks_of : Entered → ℕ
blocks_of entered = size_of entered.token.length

-- why it is in conflict
abbrev pub conflict_in : Conflict → ConflictCause
conflict_in conflict = conflict.cause

-- a text of so many octets is none for any buffer: it has none, or more than a token can say
abbrev pub IsNoText : (octets : ℕ) → Type 0
IsNoText octets = (octets ≡ 0) ⊎ (2 ^ 32 ≤ octets)

-- the conflict is one of the storing of this text: for its sake it is only where it is none
abbrev pub IsConflictFor : (text : List ℕ) → ConflictCause → Type 0
IsConflictFor text causes.Text = IsNoText (length text)
IsConflictFor text causes.Begin = Unit {0}
IsConflictFor text causes.Write = Unit {0}

-- the fault is a worn buffer's at the begin of an article of so many octets
abbrev pub IsWornOf : (octets : ℕ) → Fault → Type 0
IsWornOf octets fault = (fault.kind ≡ kinds.Worn) × (fault.length ≡ octets)

-- it is in conflict as a begin was refused
abbrev pub IsOfBegin : Conflict → Type 0
IsOfBegin conflict = conflict_in conflict ≡ causes.Begin

-- all is in conflict, as a begin was refused
abbrev pub IsUnbegun : Result Fault Conflict → Type 0
IsUnbegun (Ok fault) = ⊥
IsUnbegun (Err conflict) = IsOfBegin conflict

-- what a begin that is refused so comes to: the fault that is told, or that all is in conflict
abbrev pub IsRefusedAs : BufError → Result Fault Conflict → Type 0
IsRefusedAs errors.TooBig told = IsUnbegun told
IsRefusedAs (errors.Worn fault) told = told ≡ Ok fault
IsRefusedAs errors.Busy told = IsUnbegun told
IsRefusedAs (errors.Device fault) told = told ≡ Ok fault
