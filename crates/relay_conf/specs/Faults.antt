-- The faults of configuration files, and which of several is answered.
use Rattle.std.specs.Prelude.{◌≡◌, ℕ, ◌+◌, List, [], ◌∷◌, ◌++◌, length, codes, Option, None, Some}
use Rattle.std.specs.Prelude.{Result, Ok, Err}
use Rattle.relay_conf.specs.declared.faults.Fault.{Fault}
use Rattle.relay_conf.specs.declared.faults.Fault.TheVariants.{Syntax, UnknownKey, Duplicate}
use Rattle.relay_conf.specs.declared.faults.Fault.TheVariants.{UnknownName, Number, Pattern, Shared}
use Rattle.relay_conf.specs.declared.faults.Fault.TheVariants.{NoBuffers}
use Rattle.relay_conf.specs.declared.faults.LineFault.{LineFault}
use Rattle.relay_conf.specs.declared.faults.ConfError.{ConfError}
use Rattle.relay_conf.specs.declared.faults.ConfError.TheVariants.{Memory, Faulty}
use Rattle.relay_conf.specs.declared.faults.Refusal.{Refusal}
use Rattle.relay_conf.specs.declared.faults.Refusal.TheVariants as refusals

-- the code of a fault (docs/FORMATS.md, Configuration)
abbrev pub code_of : Fault → ℕ
code_of Syntax = 1
code_of UnknownKey = 2
code_of Duplicate = 3
code_of UnknownName = 4
code_of Number = 5
code_of Pattern = 6
code_of Shared = 7
code_of NoBuffers = 8

-- the name of a fault (docs/FORMATS.md, Configuration)
abbrev pub name_of : Fault → List ℕ
name_of Syntax = codes "Syntax"
name_of UnknownKey = codes "UnknownKey"
name_of Duplicate = codes "Duplicate"
name_of UnknownName = codes "UnknownName"
name_of Number = codes "Number"
name_of Pattern = codes "Pattern"
name_of Shared = codes "Shared"
name_of NoBuffers = codes "NoBuffers"

-- a fault of this line, else the first of those behind it (docs/FORMATS.md, Configuration)
abbrev pub fault_or_later : (line : ℕ) → Option Fault → (later : Option LineFault)
    → Option LineFault
fault_or_later line None later = later
fault_or_later line (Some fault) later = Some (record { line = line; fault = fault })

-- the first line with a fault, lines counted from 1; what is wrong with a line may rest on the
-- lines before it (docs/FORMATS.md, Configuration)
abbrev pub first_fault : {L : Type 0} → (wrong : (before : List L) → L → Option Fault)
    → (before lines : List L) → Option LineFault
first_fault wrong before [] = None
first_fault wrong before (line ∷ more) =
    fault_or_later (length before + 1) (wrong before line)
    (first_fault wrong (before ++ line ∷ []) more)

-- a fault of the whole file has line 0 (docs/FORMATS.md, Configuration)
abbrev pub whole_fault : Option Fault → Option LineFault
whole_fault fault = fault_or_later 0 fault None

-- the fault, where there is one, else what follows (docs/FORMATS.md, Configuration)
abbrev pub unless_fault : {S : Type 0} → Option LineFault → Result S LineFault → Result S LineFault
unless_fault None said = said
unless_fault (Some fault) said = Err fault

-- the answer is what the text says, its settings or its fault, unless memory ran out
abbrev pub ConfGives : {T S : Type 0} → (T → S) → Result T ConfError → Result S LineFault → Type 0
ConfGives view (Ok settings) says = says ≡ Ok (view settings)
ConfGives view (Err Memory) says = Unit {0}
ConfGives view (Err (Faulty fault)) says = says ≡ Err fault

-- the answer is that the line has no fault, or its fault, unless memory ran out
abbrev pub LineGives : {X : Type 0} → Result X Refusal → Option Fault → Type 0
LineGives (Ok done) fault = fault ≡ None
LineGives (Err refusals.Memory) fault = Unit {0}
LineGives (Err (refusals.Faulty found)) fault = fault ≡ Some found

-- the same refusal, of the line of this number
abbrev pub error_at : ℕ → Refusal → ConfError
error_at line refusals.Memory = Memory
error_at line (refusals.Faulty fault) = Faulty (record { line = line; fault = fault })
