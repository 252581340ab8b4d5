-- Why a relay is not served, from why its parts aren't had.
use Rattle.std.proofs.Common.{◌≡◌, ◌⊎◌, inl, inr, List, ℕ, Option, None, Some, Result, Ok, Err}
use Rattle.std.proofs.Common.{refl, subst, sym}
use Rattle.std.specs.Io.KnownBytes.{Keeps}
use Rattle.std.specs.Result.{IsErr, IsErrAnd}
use Rattle.live_store.specs.declared.record.StorePremises as store_premises
use Rattle.relay_conf.specs.declared.settings.Config.{Config}
use Rattle.relay_live.specs.declared.running.Counted.{Counted}
use Rattle.buffer_files.specs.Files.{IsFileFault}
use Rattle.buffer_files.specs.History.{IsOriginFault}
use Rattle.relay_ports.specs.Ports.{IsPortFault}
use Rattle.relay_serve.specs.Running.{RunGives}
use Rattle.relay_startup.proofs.Faults.{origin_serves}
use Rattle.buffer_files.specs.Faults.{IsServeFault}
use Rattle.relay_report.specs.Serve.{ServeGives}
use Rattle.relay_report.specs.declared.fault.ServeError.{ServeError}
use Rattle.relay_report.specs.declared.fault.ServeError.TheVariants as faults

-- where there is no thread for what goes on beside a run nothing is run
pub run_or_none : {J : Type 0} (g : store_premises.Ghosts J) (config : Config) (peers : List ℕ)
    (result : Result Counted ServeError)
    → (result ≡ Err faults.NoThread) ⊎ RunGives g config peers result
    → RunGives g config peers result
run_or_none g config peers result (inl none) =
    subst (RunGives g config peers) (sym none)
    (record {
      ran = tt;
      fault = inr (inr refl);
    })
run_or_none g config peers result (inr gives) = gives

-- a writer that isn't called holds what it held
kept : (held : Option (List ℕ)) → Keeps held held
kept None = tt
kept (Some octets) = refl

-- where nothing is served nothing is written
pub none_served : (config : Config) (error : ServeError) (held : Option (List ℕ))
    → IsServeFault config error → ServeGives config (Err error) held held
none_served config (faults.File lost) held names = (names, kept held)
none_served config (faults.Port lost) held none = absurd none
none_served config faults.Control held none = absurd none
none_served config (faults.Start started) held names = (names, kept held)
none_served config (faults.Stop stopped) held fault = (tt, kept held)
none_served config faults.Unseeded held fault = (tt, kept held)
none_served config faults.Memory held fault = (tt, kept held)
none_served config faults.NoThread held fault = (tt, kept held)
none_served config faults.Unwritten held none = absurd none

pub served_none : (config : Config) (error : ServeError) (result : Result (Unit {0}) ServeError)
    (held : Option (List ℕ)) → IsErr result → IsErrAnd result (λ e. e ≡ error)
    → IsServeFault config error → ServeGives config result held held
served_none config error (Ok finished) held is e fault = absurd (cc is)
served_none config error (Err same) held is e fault =
    let P : ServeError → Type 0 = λ it. ServeGives config (Err it) held held in
    subst P (sym e) (none_served config error held fault)

-- where memory is refused, nor where a file can't be had or a port
memory_serves : (config : Config) (error : ServeError) (held : Option (List ℕ))
    → error ≡ faults.Memory → ServeGives config (Err error) held held
memory_serves config error held e =
    let P : ServeError → Type 0 = λ it. ServeGives config (Err it) held held in
    subst P (sym e) (tt, kept held)

file_serves : (config : Config) (error : ServeError) (held : Option (List ℕ))
    → IsFileFault config.buffers error → ServeGives config (Err error) held held
file_serves config (faults.File lost) held names = (names, kept held)
file_serves config error held e = memory_serves config error held e

port_serves : (config : Config) (error : ServeError) (held : Option (List ℕ))
    → IsPortFault config.relay.peers.items error → ServeGives config (Err error) held held
port_serves config (faults.Port lost) held names = (names, kept held)
port_serves config error held e = memory_serves config error held e

-- nor where it isn't known what it begins from, or a file of it can't be emptied
pub unbegun_serves : (config : Config) (error : ServeError) (held : Option (List ℕ))
    → IsOriginFault error ⊎ IsFileFault config.buffers error
    → ServeGives config (Err error) held held
unbegun_serves config error held (inl origin) =
    none_served config error held (origin_serves config error origin)
unbegun_serves config error held (inr file) = file_serves config error held file

pub unopened_serves : (config : Config) (error : ServeError) (held : Option (List ℕ))
    → IsFileFault config.buffers error ⊎ IsPortFault config.relay.peers.items error
    → ServeGives config (Err error) held held
unopened_serves config error held (inl file) = file_serves config error held file
unopened_serves config error held (inr port) = port_serves config error held port
