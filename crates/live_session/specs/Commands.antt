-- The commands of a session, counted from 0.
use Rattle.std.specs.Prelude.{ℕ, Bool, ◌≡◌, ◌+◌, ◌%◌, ◌^◌, Option, None, Some, false, true}
use Rattle.live_session.specs.declared.commands.Command.{Command}
use Rattle.live_session.specs.declared.commands.Commands.{Commands}

-- the number of a command's session
abbrev pub session_of : Command → ℕ
session_of command = command.session

-- the number of a command among those of its session
abbrev pub number_of : Command → ℕ
number_of command = command.number

-- the newest of a session's commands, if it has had one
abbrev pub newest_in : Commands → Option Command
newest_in commands = commands.newest

-- this command was let in, where there is one
abbrev pub WasLetIn : (admits : Command → Type 0) → Option Command → Type 0
WasLetIn admits newest = (command : Command) → newest ≡ Some command → ∥ admits command ∥₁

-- the command of a session that comes after its newest, in 64 bits
abbrev pub next_after : (session : ℕ) → Option Command → Command
next_after session None = record { session = session; number = 0 }
next_after session (Some command) =
    record { session = session; number = (command.number + 1) % 2 ^ 64 }

-- where a session was at a command its gate was asked of the next one, and else of none
pub record WasAsked (at_command : Bool) (commands commands' : Commands) : Type 0 where
  pub asked : at_command ≡ true
      → newest_in commands' ≡ Some (next_after commands.session (newest_in commands))
  pub unasked : at_command ≡ false → newest_in commands' ≡ newest_in commands
