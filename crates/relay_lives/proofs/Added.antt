-- A buffer that can't be added is why a life of a relay isn't served.
use Rattle.std.proofs.Common.{List, ℕ, Option, None, Some, Err, refl}
use Rattle.std.specs.Io.KnownBytes.{Keeps}
use Rattle.relay_adding.specs.Telling.{IsAddFault}
use Rattle.relay_conf.specs.declared.settings.Config.{Config}
use Rattle.relay_report.specs.Serve.{ServeGives}
use Rattle.relay_report.specs.declared.fault.ServeError.{ServeError}
use Rattle.relay_report.specs.declared.fault.ServeError.TheVariants as faults

-- A writer that isn't called holds what it held.
held_still : (held : Option (List ℕ)) → Keeps held held
held_still None = tt
held_still (Some octets) = refl

-- A fault of adding buffers is one of serving, and nothing is written.
pub add_gives : (config : Config) (error : ServeError) (held : Option (List ℕ))
    → IsAddFault config error → ServeGives config (Err error) held held
add_gives config (faults.File lost) held is = (is, held_still held)
add_gives config (faults.Port lost) held is = absurd is
add_gives config faults.Control held is = (tt, held_still held)
add_gives config (faults.Start fault) held is = (is, held_still held)
add_gives config faults.Unseeded held is = absurd is
add_gives config faults.Memory held is = (tt, held_still held)
add_gives config faults.NoThread held is = absurd is
add_gives config (faults.Stop fault) held is = absurd is
add_gives config faults.Unwritten held is = absurd is
