-- Files read line by line: what their lines say, one by one and together.
use Rattle.std.specs.Prelude.{◌≡◌, ◌⊎◌, ℕ, List, [], ◌∷◌, ◌++◌, Option, Some, Result, Ok, Err}
use Rattle.relay_conf.specs.declared.faults.Fault.{Fault}
use Rattle.relay_conf.specs.declared.faults.LineFault.{LineFault}
use Rattle.relay_conf.specs.declared.faults.ConfError.{ConfError}
use Rattle.relay_conf.specs.declared.faults.ConfError.TheVariants.{Memory, Faulty}
use Rattle.relay_conf.specs.Faults.{first_fault}

-- lines say this behind others, one by one, by what one line says behind those before it
abbrev pub SayEach : {S : Type 0} → (Says : List S → List ℕ → S → Type 0) → (before : List S)
    → (lines : List (List ℕ)) → List S → Type 0
SayEach Says before [] [] = Unit {0}
SayEach Says before [] (one ∷ more) = ⊥
SayEach Says before (line ∷ lines) [] = ⊥
SayEach Says before (line ∷ lines) (one ∷ more) =
    Says before line one × SayEach Says (before ++ one ∷ []) lines more

-- the lines up to some line say this, and its fault is the first of those looked for line by line
pub record HasEarlyFault {S : Type 0} (Says : List S → List ℕ → S → Type 0)
    (wrong : List S → S → Option Fault) (lines : List (List ℕ)) (fault : LineFault) : Type 0 where
  pub read : List (List ℕ)
  pub rest : List (List ℕ)
  pub said : List S
  pub split : lines ≡ read ++ rest
  pub says : SayEach Says [] read said
  pub first : first_fault wrong [] said ≡ Some fault

-- all lines say this, and this is what it comes to together
pub record SayTogether {S T : Type 0} (Says : List S → List ℕ → S → Type 0)
    (together : List S → Result T LineFault) (lines : List (List ℕ)) (answer : Result T LineFault)
    : Type 0 where
  pub said : List S
  pub says : SayEach Says [] lines said
  pub gives : together said ≡ answer

-- the lines have this fault: the first of those looked for line by line, or that of them together
abbrev pub HaveFault : {S T : Type 0} → (Says : List S → List ℕ → S → Type 0)
    → (wrong : List S → S → Option Fault) → (together : List S → Result T LineFault)
    → (lines : List (List ℕ)) → LineFault → Type 0
HaveFault Says wrong together lines fault =
    HasEarlyFault Says wrong lines fault ⊎ SayTogether Says together lines (Err fault)

-- the answer is what the lines say, unless memory ran out
abbrev pub LinesGive : {A S T : Type 0} → (view : A → T) → (Says : List S → List ℕ → S → Type 0)
    → (wrong : List S → S → Option Fault) → (together : List S → Result T LineFault)
    → Result A ConfError → (lines : List (List ℕ)) → Type 0
LinesGive view Says wrong together (Ok settings) lines =
    SayTogether Says together lines (Ok (view settings))
LinesGive view Says wrong together (Err Memory) lines = Unit {0}
LinesGive view Says wrong together (Err (Faulty fault)) lines =
    HaveFault Says wrong together lines fault
