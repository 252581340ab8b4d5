-- What a run writes that gathers what it prints (docs/PROTOCOL.md, Statuses).
use Rattle.std.specs.Prelude.{◌≡◌, ℕ, List, [], Option, Result, Err}
use Rattle.std.specs.Io.KnownBytes.{Keeps, append_known}
use Rattle.clap.specs.Words.{Text}
use Rattle.relay_command.specs.Adding.{Adding, Standing}
use Rattle.relay_command.specs.Ask.{Asking}
use Rattle.relay_command.specs.Run.{RunGives}
use Rattle.relay_command.specs.Serving.{Serving}
use Rattle.relay_command.specs.declared.failure.Failure.{Failure}
use Rattle.relay_command.specs.declared.failure.Failure.TheVariants.{Unwritten}

-- how a run ends of which so much is still held when it has printed all that it prints
pub data EndsAs (ran result : Result (Unit {0}) Failure) (held : List ℕ) : Type 0 where
  -- nothing is held any more, and it ends as it ran
  handed_on : held ≡ [] → result ≡ ran → EndsAs ran result held
  -- the device failed: standard output is told as unwritten, whatever the run had to tell
  not_handed_on : result ≡ Err Unwritten → EndsAs ran result held

-- What is held after a run was handed on, or the device failed; where nothing was held, nothing
-- was done.
pub record HandsOn (ran result : Result (Unit {0}) Failure) (held left : List ℕ) : Type 0 where
  pub ends : EndsAs ran result left
  pub idle : held ≡ [] → result ≡ ran

-- What a run printed is what the device took, and behind it what is still held: nothing, unless
-- standard output is told as unwritten.
pub record RunsGathered (serving : Serving) (adding : Adding) (standing : Standing)
    (asking : Asking) (words : List Text) (result : Result (Unit {0}) Failure)
    (input before device : Option (List ℕ)) (held : List ℕ)
    : Type 0 where
  pub ran : Result (Unit {0}) Failure
  pub printed : Option (List ℕ)
  pub gives : RunGives serving adding standing asking words ran input before printed
  pub whole : Keeps printed (append_known device held)
  pub ends : EndsAs ran result held
