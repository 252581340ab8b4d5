-- Files that are read whole (docs/PROTOCOL.md, Statuses).
use Rattle.std.specs.Prelude.{◌≡◌, ◌⊎◌}
use Rattle.std.specs.declared.io.ErrorKind.{ErrorKind}
use Rattle.std.specs.declared.io.ErrorKind.TheVariants.{OutOfMemory}
use Rattle.relay_drill.specs.declared.fault.DrillError.{DrillError}
use Rattle.relay_drill.specs.declared.fault.DrillError.TheVariants.{Memory, Unreadable}

-- the error says that memory ran out, or that the file can't be read
abbrev pub CannotBeRead : DrillError → Type 0
CannotBeRead error = (error ≡ Memory) ⊎ (error ≡ Unreadable)

-- why a file can't be opened: memory ran out, or it can't be read
abbrev pub unopened_as : ErrorKind → DrillError
unopened_as OutOfMemory = Memory
unopened_as kind = Unreadable
