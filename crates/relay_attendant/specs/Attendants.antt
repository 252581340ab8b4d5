-- What whoever is asked while a relay is served has at hand.
use Rattle.std.specs.Prelude.{Option}
use Rattle.relay_devices.specs.declared.syncing.Syncing.{Syncing}
use Rattle.relay_attendant.specs.declared.attendant.Attendant.{Attendant}

-- what is flushed while a relay is served
abbrev pub syncing_in : Attendant → Option Syncing
syncing_in attendant = attendant.syncing
