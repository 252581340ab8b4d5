-- What was asked of a file of the machine.
use Rattle.std.specs.Prelude.{◌+◌, ℕ, List, [], ◌∷◌, Bool, true, false, IsTrue}
use Rattle.file_blocks.specs.declared.flusher.Flusher.{Flusher}
use Rattle.file_blocks.specs.declared.host.HeldFile.{HeldFile}
use Rattle.file_blocks.specs.declared.host.HostFile.{HostFile}
use Rattle.file_blocks.specs.declared.which.Identity.{Identity}

-- the calls so far, the first of them first: the place of each, and whether it failed
abbrev pub asked_of : HostFile → List (ℕ × Bool)
asked_of file = file.asked.items

-- which file it is
abbrev pub identity_of : HostFile → Identity
identity_of file = file.identity

-- which file it is that is held
abbrev pub held_identity : HeldFile → Identity
held_identity held = held.identity

-- which file it is that is flushed beside whoever writes it
abbrev pub flushed_identity : Flusher → Identity
flushed_identity flusher = flusher.identity

-- how many of the calls failed
unfoldable pub failed_in : List (ℕ × Bool) → ℕ
failed_in [] = 0
failed_in ((place, true) ∷ calls) = failed_in calls + 1
failed_in ((place, false) ∷ calls) = failed_in calls

-- the file was emptied since it was opened
abbrev pub IsEmptied : HostFile → Type 0
IsEmptied file = IsTrue file.emptied

-- the device was had take all that was written to the file
abbrev pub IsFlushed : HostFile → Type 0
IsFlushed file = IsTrue file.flushed
