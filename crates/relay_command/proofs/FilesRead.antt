-- A file that is read whole, or can't be.
use Rattle.std.proofs.Common.{inl, inr, ℕ, List, Option, Result, Ok, Err, IfErr, refl}
use Rattle.std.specs.declared.io.ErrorKind.{ErrorKind}
use Rattle.std.specs.declared.io.ErrorKind.TheVariants.{OutOfMemory}
use Rattle.relay_drill.specs.Fault.{ReadGives}
use Rattle.relay_drill.specs.declared.fault.DrillError.{DrillError}
use Rattle.relay_drill.specs.declared.fault.DrillError.TheVariants as faults
use Rattle.relay_command.specs.Files.{CannotBeRead, unopened_as}

-- what a reader fails with says that it can't be read
pub read_or_not : {T : Type 0} (items : T → List ℕ) (result : Result T DrillError)
    (left : Option (List ℕ)) → ReadGives items result left → IfErr result CannotBeRead
read_or_not items (Ok text) left gives = tt
read_or_not items (Err faults.Memory) left gives = inl refl
read_or_not items (Err faults.Unreadable) left gives = inr refl
read_or_not items (Err (faults.Line number)) left gives = absurd gives
read_or_not items (Err faults.Unwritten) left gives = absurd gives
read_or_not items (Err faults.Unseeded) left gives = absurd gives
read_or_not items (Err faults.Device) left gives = absurd gives
read_or_not items (Err faults.Unrepaired) left gives = absurd gives

-- so does why a file is not opened
pub not_opened : (kind : ErrorKind) → CannotBeRead (unopened_as kind)
not_opened OutOfMemory = inl refl
not_opened kind = inr refl
