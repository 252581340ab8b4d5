-- What the storing of a text comes to.
use Rattle.std.specs.Prelude.{◌≡◌, ◌⊎◌, ℕ, Bool, List, length}
use Rattle.boxcar.specs.Table.{Where}
use Rattle.cyc_buffer.specs.declared.answers.Fault.{Fault}
use Rattle.cyc_buffer.specs.declared.answers.FaultKind.TheVariants as kinds
use Rattle.cyc_token.specs.declared.Token as codes
use Rattle.live_store.specs.declared.answers.WriteFault.{WriteFault}
use Rattle.live_store.specs.declared.answers.WriteFault.TheVariants as writes
use Rattle.live_store.specs.declared.record.StorePremises.{Ghosts}
use Rattle.live_store.specs.declared.writing.entering.Record.{Record}
use Rattle.live_store.specs.declared.stored.Receipt.{Receipt}
use Rattle.live_store.specs.declared.stored.Stored.{Stored}
use Rattle.live_store.specs.declared.stored.Stored.TheVariants as stored
use Rattle.live_store.specs.Handles.{IsConflictFor, conflict_in}
use Rattle.live_store.specs.Tied.{text_in, token_in, named_in, fresh_in}

-- the record of the number is one of this class with this text
pub record IsTextOf (number : ℕ) (octets : List ℕ) (shown : Where Record) : Type 0 where
  pub text : text_in shown ≡ octets
  pub class : (token_in shown).class ≡ number
  pub length : (token_in shown).length ≡ length octets

-- the token of a receipt, as the code has it: its record's
abbrev pub receipt_token : {J : Type 0} {g : Ghosts J} → Receipt J g → codes.Token
receipt_token receipt = named_in receipt.shown

-- the fault is a failed write's of the text, or a worn buffer's at its begin
pub record IsStoreFault (text : List ℕ) (fault : Fault) : Type 0 where
  pub kind : (fault.kind ≡ kinds.Write) ⊎ (fault.kind ≡ kinds.Worn)
  pub length : fault.length ≡ length text

-- the record of the receipt has class and text; or the fault, or the conflict, is one of the
-- storing of the text
abbrev pub IsStored : {J : Type 0} {g : Ghosts J} → (class : ℕ) → (text : List ℕ) → Stored J g
    → Type 0
IsStored class text (stored.Kept finished) = IsTextOf class text finished.receipt.shown
IsStored class text (stored.Failed fault) = IsStoreFault text fault
IsStored class text (stored.Conflict conflict) = IsConflictFor text (conflict_in conflict)

-- what is kept was begun with this flag
abbrev pub IsBegunWith : {J : Type 0} {g : Ghosts J} → (fresh : Bool) → Stored J g → Type 0
IsBegunWith fresh (stored.Kept finished) = fresh_in finished.receipt.shown ≡ fresh
IsBegunWith fresh (stored.Failed fault) = Unit {0}
IsBegunWith fresh (stored.Conflict conflict) = Unit {0}

-- what is told of a write that is given up: the device's fault where it failed
abbrev pub IsGivenUp : {J : Type 0} {g : Ghosts J} → WriteFault → Stored J g → Type 0
IsGivenUp (writes.Device fault) result = result ≡ stored.Failed fault
IsGivenUp (writes.Conflict conflict) result = result ≡ stored.Conflict conflict
