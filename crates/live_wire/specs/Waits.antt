-- Waits that end in parts.
use Rattle.std.specs.Prelude.{◌≡◌, ◌⊎◌}
use Rattle.std.specs.declared.io.ErrorKind.{ErrorKind}
use Rattle.std.specs.declared.io.ErrorKind.TheVariants.{Interrupted, TimedOut, WouldBlock}

-- a part of a wait has passed, and nothing came or went
abbrev pub IsLate : ErrorKind → Type 0
IsLate kind = (kind ≡ WouldBlock) ⊎ (kind ≡ TimedOut)

-- a part of a wait has passed, or a signal came first
abbrev pub IsWait : ErrorKind → Type 0
IsWait kind = IsLate kind ⊎ (kind ≡ Interrupted)
