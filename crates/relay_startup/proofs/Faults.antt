-- Why a relay is not run, or not served, from why its parts aren't had.
use Rattle.std.proofs.Common.{◌≡◌, inl, inr, [], List, ℕ, Option, None, Some, refl, subst, sym}
use Rattle.std.proofs.lemmas.Option.{get_or_from_slice_get, slice_get_within}
use Rattle.std.specs.Prelude.{slice_get}
use Rattle.std.specs.declared.io.ErrorKind.{ErrorKind}
use Rattle.std.specs.declared.io.ErrorKind.TheVariants.{OutOfMemory}
use Rattle.block_shelf.specs.declared.starting.StopFault.{StopFault}
use Rattle.block_shelf.specs.declared.starting.StopFault.TheVariants as reasons
use Rattle.cyc_block.specs.declared.store.BlockStore.{Ghosts}
use Rattle.relay_conf.specs.declared.cycbuff.BufferConf.{BufferConf}
use Rattle.relay_conf.specs.declared.settings.Config.{Config}
use Rattle.relay_report.specs.declared.fault.ServeError.{ServeError}
use Rattle.relay_report.specs.declared.fault.ServeError.TheVariants as faults
use Rattle.relay_report.specs.declared.keeping.BufferFault.{BufferFault}
use Rattle.relay_report.specs.declared.keeping.BufferFault.TheVariants.{Device, NoHead, Unclosed}
use Rattle.relay_report.specs.declared.keeping.BufferFault.TheVariants.{Damaged, Mixed}
use Rattle.relay_report.specs.declared.keeping.StartFault.TheVariants as starts
use Rattle.relay_startup.specs.StopNumbers.{IsHistoryFault}
use Rattle.buffer_files.specs.Faults.{IsRelayFault, IsRunFault, IsServeFault, IsStopFault}
use Rattle.buffer_files.specs.Faults.{unbegun_as}
use Rattle.buffer_files.specs.History.{IsOriginFault}
use Rattle.relay_startup.specs.Starting.{IsFaultAtAny, IsFaultOfBuffer, IsRefusal}

-- what ends a run is a reason that a relay isn't run
pub run_serves : {S : Type 0} (g : Ghosts S) (config : Config) (stores : List S)
    (error : ServeError) → IsRunFault error → IsRelayFault g config stores error
run_serves g config stores error (inl memory) =
    subst (IsRelayFault g config stores) (sym memory) tt
run_serves g config stores error (inr (inl unseeded)) =
    subst (IsRelayFault g config stores) (sym unseeded) tt
run_serves g config stores error (inr (inr threads)) =
    subst (IsRelayFault g config stores) (sym threads) tt

-- that it couldn't be stopped is one
pub stop_stays : {S : Type 0} (g : Ghosts S) (config : Config) (stores : List S)
    (error : ServeError) → IsStopFault error → IsRelayFault g config stores error
stop_stays g config stores (faults.Stop fault) stops = tt
stop_stays g config stores faults.Memory e = tt
stop_stays g config stores (faults.File lost) e =
    subst (IsRelayFault g config stores) (sym e) tt
stop_stays g config stores (faults.Port lost) e =
    subst (IsRelayFault g config stores) (sym e) tt
stop_stays g config stores faults.Control e = subst (IsRelayFault g config stores) (sym e) tt
stop_stays g config stores (faults.Start fault) e =
    subst (IsRelayFault g config stores) (sym e) tt
stop_stays g config stores faults.Unseeded e = tt
stop_stays g config stores faults.NoThread e = tt
stop_stays g config stores faults.Unwritten e =
    subst (IsRelayFault g config stores) (sym e) tt

-- such a reason names a file of the configuration, where it names one
pub relay_serves : {S : Type 0} (g : Ghosts S) (config : Config) (stores : List S)
    (error : ServeError) → IsRelayFault g config stores error → IsServeFault config error
relay_serves g config stores (faults.File lost) fault =
    let all = config.buffers.buffers.items in (
      fault.number,
      fault.buffer,
      slice_get_within all fault.number fault.buffer fault.there,
      get_or_from_slice_get all fault.number fault.buffer fault.buffer fault.there,
      fault.named,
    )
relay_serves g config stores (faults.Port lost) fault = absurd fault
relay_serves g config stores faults.Control fault = absurd fault
relay_serves g config stores (faults.Start started) fault = fault
relay_serves g config stores (faults.Stop stopped) fault = tt
relay_serves g config stores faults.Unseeded fault = tt
relay_serves g config stores faults.Memory fault = tt
relay_serves g config stores faults.NoThread fault = tt
relay_serves g config stores faults.Unwritten fault = absurd fault

-- that it isn't known what it begins from names none
pub origin_serves : (config : Config) (error : ServeError) → IsOriginFault error
    → IsServeFault config error
origin_serves config error (inl memory) = subst (IsServeFault config) (sym memory) tt
origin_serves config error (inr history) = subst (IsServeFault config) (sym history) tt

-- nor does that it couldn't be stopped
pub stop_serves : (config : Config) (error : ServeError) → IsStopFault error
    → IsServeFault config error
stop_serves config (faults.Stop fault) stops = tt
stop_serves config error e = subst (IsServeFault config) (sym e) tt

-- The fault of a buffer that is there names it.
of_buffer : {S : Type 0} (g : Ghosts S) (config : Config) (stores : List S) (number : ℕ)
    (fault : BufferFault) (error : ServeError) (there : Option BufferConf)
    → slice_get config.buffers.buffers.items number ≡ there → IsFaultOfBuffer there fault error
    → IsRelayFault g config stores error
of_buffer g config stores number fault error None at e =
    subst (IsRelayFault g config stores) (sym e) tt
of_buffer g config stores number fault (faults.Start (starts.Buffer name found))
    (Some buffer) at e =
    let all = config.buffers.buffers.items in (
      number,
      buffer,
      slice_get_within all number buffer at,
      get_or_from_slice_get all number buffer buffer at,
      e.0,
    )
of_buffer g config stores number fault (faults.Start starts.History) (Some buffer) at e = tt
of_buffer g config stores number fault (faults.Start (starts.BadHistory cause)) (Some buffer) at e =
    tt
of_buffer g config stores number fault (faults.Start starts.Ahead) (Some buffer) at e = tt
of_buffer g config stores number fault (faults.Start starts.Names) (Some buffer) at e = tt
of_buffer g config stores number fault (faults.File lost) (Some buffer) at e =
    subst (IsRelayFault g config stores) (sym e) tt
of_buffer g config stores number fault (faults.Port lost) (Some buffer) at e =
    subst (IsRelayFault g config stores) (sym e) tt
of_buffer g config stores number fault faults.Control (Some buffer) at e =
    subst (IsRelayFault g config stores) (sym e) tt
of_buffer g config stores number fault faults.Unseeded (Some buffer) at e = tt
of_buffer g config stores number fault faults.Memory (Some buffer) at e = tt
of_buffer g config stores number fault faults.NoThread (Some buffer) at e = tt
of_buffer g config stores number fault (faults.Stop stopped) (Some buffer) at e = tt
of_buffer g config stores number fault faults.Unwritten (Some buffer) at e =
    subst (IsRelayFault g config stores) (sym e) tt

-- So does that of the buffer of a number, where there is one.
at_any : {S : Type 0} (g : Ghosts S) (config : Config) (stores : List S) (number : Option ℕ)
    (fault : BufferFault) (error : ServeError) → IsFaultAtAny config.buffers number fault error
    → IsRelayFault g config stores error
at_any g config stores None fault error e = subst (IsRelayFault g config stores) (sym e) tt
at_any g config stores (Some number) fault error e =
    of_buffer g config stores number fault error
    (slice_get config.buffers.buffers.items number) refl e

-- What a start is refused for is a reason that a relay isn't run,
pub refusal_stays : {S : Type 0} (g : Ghosts S) (config : Config) (stores : List S)
    (number : Option ℕ)
    (reason : StopFault) (error : ServeError) → IsRefusal config.buffers number reason error
    → IsRelayFault g config stores error
refusal_stays g config stores number reasons.Memory error e =
    subst (IsRelayFault g config stores) (sym e) tt
refusal_stays g config stores number reasons.Device error e =
    at_any g config stores number Device error e
refusal_stays g config stores number reasons.NoHead error e =
    at_any g config stores number NoHead error e
refusal_stays g config stores number reasons.Unclosed error e =
    at_any g config stores number Unclosed error e
refusal_stays g config stores number reasons.Damaged error e =
    at_any g config stores number Damaged error e
refusal_stays g config stores number reasons.BadHistory error e =
    subst (IsRelayFault g config stores) (sym e) tt
refusal_stays g config stores number reasons.Mixed error e =
    at_any g config stores number Mixed error e
refusal_stays g config stores number reasons.Ahead error e =
    subst (IsRelayFault g config stores) (sym e) tt

-- Where the host lets none begin, that ends a run.
pub unbegun_runs : (kind : ErrorKind) → IsRunFault (unbegun_as kind)
unbegun_runs OutOfMemory = inl refl
unbegun_runs kind = inr (inl refl)

-- what is seen of a device that is none
pub nothing_seen : Ghosts ℕ
nothing_seen = record {
  blocks = λ n. [];
  heads = λ n. [];
  calls = λ n. n;
  failures = λ n. n;
  honest = λ n. Unit {0};
}

-- what a head is refused for
pub refusal_serves : (config : Config) (number : Option ℕ) (reason : StopFault)
    (error : ServeError) → IsRefusal config.buffers number reason error
    → IsServeFault config error
refusal_serves config number reason error e =
    relay_serves nothing_seen config [] error
    (refusal_stays nothing_seen config [] number reason error e)

-- what a history is refused for
pub history_serves : (config : Config) (error : ServeError) → IsHistoryFault error
    → IsServeFault config error
history_serves config error (inl memory) = subst (IsServeFault config) (sym memory) tt
history_serves config error (inr (inl unread)) = subst (IsServeFault config) (sym unread) tt
history_serves config (faults.Start (starts.BadHistory cause)) (inr (inr bad)) = tt
history_serves config (faults.File lost) (inr (inr bad)) = absurd bad
history_serves config (faults.Port lost) (inr (inr bad)) = absurd bad
history_serves config faults.Control (inr (inr bad)) = absurd bad
history_serves config (faults.Start starts.History) (inr (inr bad)) = absurd bad
history_serves config (faults.Start (starts.Buffer name fault)) (inr (inr bad)) = absurd bad
history_serves config (faults.Start starts.Ahead) (inr (inr bad)) = absurd bad
history_serves config (faults.Start starts.Names) (inr (inr bad)) = absurd bad
history_serves config faults.Unseeded (inr (inr bad)) = absurd bad
history_serves config faults.Memory (inr (inr bad)) = absurd bad
history_serves config faults.NoThread (inr (inr bad)) = absurd bad
history_serves config (faults.Stop fault) (inr (inr bad)) = absurd bad
history_serves config faults.Unwritten (inr (inr bad)) = absurd bad

-- what a run ends for is a reason that a relay isn't served
pub run_fault_serves : (config : Config) (error : ServeError) → IsRunFault error
    → IsServeFault config error
run_fault_serves config error fault =
    relay_serves nothing_seen config [] error (run_serves nothing_seen config [] error fault)
