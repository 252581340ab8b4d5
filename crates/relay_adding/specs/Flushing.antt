-- Buffers that are added, and that their devices have.
use Rattle.std.specs.Prelude.{ℕ, ◌+◌, ◌<◌, ◌≤◌}
use Rattle.relay_adding.specs.declared.flushing.Unadded.{Unadded}
use Rattle.relay_adding.specs.declared.flushing.Unadded.TheVariants.{Device, Memory}

-- the number is that of one of so many buffers, of which the first has this one
abbrev pub IsAmong : (first count number : ℕ) → Type 0
IsAmong first count number = (first ≤ number) × (number < first + count)

-- memory was refused, or the device of one of so many buffers failed
abbrev pub IsOfAdded : (first count : ℕ) → Unadded → Type 0
IsOfAdded first count Memory = Unit {0}
IsOfAdded first count (Device number) = IsAmong first count number
