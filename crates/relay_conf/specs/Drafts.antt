-- How far a file's lines are read. No public contract cites it.
use Rattle.std.specs.Prelude.{◌≡◌, ℕ, List, [], ◌∷◌, ◌++◌, Option, None, Some, Result, Ok, Err}
use Rattle.relay_conf.specs.declared.faults.Fault.{Fault}
use Rattle.relay_conf.specs.declared.faults.ConfError.{ConfError}
use Rattle.relay_conf.specs.declared.faults.ConfError.TheVariants as errors
use Rattle.relay_conf.specs.declared.faults.Refusal.{Refusal}
use Rattle.relay_conf.specs.declared.faults.Refusal.TheVariants.{Memory, Faulty}
use Rattle.relay_conf.specs.declared.faults.LineFault.{LineFault}
use Rattle.relay_conf.specs.Faults.{first_fault}
use Rattle.relay_conf.specs.LineByLine.{SayEach, HasEarlyFault}

-- A DRAFT IS THAT OF LINES

-- one line more says this without a fault, and the draft after it is that of all of them
pub record Passes {S D : Type 0} (Says : List S → List ℕ → S → Type 0)
    (wrong : List S → S → Option Fault) (Draws : List S → D → Type 0) (said : List S)
    (line : List ℕ) (after : D) : Type 0 where
  pub one : S
  pub says : Says said line one
  pub none : wrong said one ≡ None
  pub draws : Draws (said ++ one ∷ []) after

-- one line more says this, and this is its fault
pub record Refuses {S : Type 0} (Says : List S → List ℕ → S → Type 0)
    (wrong : List S → S → Option Fault) (said : List S) (line : List ℕ) (fault : Fault)
    : Type 0 where
  pub one : S
  pub says : Says said line one
  pub found : wrong said one ≡ Some fault

-- the answer is what one line more says behind others, unless memory ran out
abbrev pub StepGives : {S D : Type 0} → (Says : List S → List ℕ → S → Type 0)
    → (wrong : List S → S → Option Fault) → (Draws : List S → D → Type 0) → (said : List S)
    → (line : List ℕ) → (after : D) → Result (Unit {0}) Refusal → Type 0
StepGives Says wrong Draws said line after (Ok done) = Passes Says wrong Draws said line after
StepGives Says wrong Draws said line after (Err Memory) = Unit {0}
StepGives Says wrong Draws said line after (Err (Faulty fault)) =
    Refuses Says wrong said line fault

-- lines say this without a fault, and the draft is theirs
pub record IsDrawnFrom {S D : Type 0} (Says : List S → List ℕ → S → Type 0)
    (wrong : List S → S → Option Fault) (Draws : List S → D → Type 0) (lines : List (List ℕ))
    (draft : D) : Type 0 where
  pub said : List S
  pub says : SayEach Says [] lines said
  pub none : first_fault wrong [] said ≡ None
  pub draws : Draws said draft

-- the answer is the draft of the lines, or their first fault that is looked for line by line,
-- unless memory ran out
abbrev pub DraftGives : {S D : Type 0} → (Says : List S → List ℕ → S → Type 0)
    → (wrong : List S → S → Option Fault) → (Draws : List S → D → Type 0)
    → (lines : List (List ℕ)) → Result D ConfError → Type 0
DraftGives Says wrong Draws lines (Ok draft) = IsDrawnFrom Says wrong Draws lines draft
DraftGives Says wrong Draws lines (Err errors.Memory) = Unit {0}
DraftGives Says wrong Draws lines (Err (errors.Faulty fault)) = HasEarlyFault Says wrong lines fault

-- A DRAFT BECOMES THE NEXT

-- a line says this without a fault, and the reading after it is the next
pub record GoesOn {E R : Type 0} (Says : Result E Fault → Type 0)
    (wrong : R → Result E Fault → Option Fault) (next : R → E → R) (r after : R) : Type 0 where
  pub line : E
  pub says : Says (Ok line)
  pub none : wrong r (Ok line) ≡ None
  pub reading : after ≡ next r line

-- a line says this, and this is its fault
pub record Ends {E R : Type 0} (Says : Result E Fault → Type 0)
    (wrong : R → Result E Fault → Option Fault) (r : R) (fault : Fault) : Type 0 where
  pub said : Result E Fault
  pub says : Says said
  pub found : wrong r said ≡ Some fault

-- the answer is what a line says behind a reading, unless memory ran out
abbrev pub ReadingGives : {E R : Type 0} → (Says : Result E Fault → Type 0)
    → (wrong : R → Result E Fault → Option Fault) → (next : R → E → R) → (r after : R)
    → Result (Unit {0}) Refusal → Type 0
ReadingGives Says wrong next r after (Ok done) = GoesOn Says wrong next r after
ReadingGives Says wrong next r after (Err Memory) = Unit {0}
ReadingGives Says wrong next r after (Err (Faulty fault)) = Ends Says wrong r fault

-- the first of two faults
abbrev pub late_or : (first second : Option LineFault) → Option LineFault
late_or None second = second
late_or (Some fault) second = Some fault
