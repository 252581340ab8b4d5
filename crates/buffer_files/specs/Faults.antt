-- Why a relay isn't begun, run, stopped or served (docs/PROTOCOL.md, Statuses).
use Rattle.std.specs.Prelude.{◌≡◌, ◌⊎◌, ℕ, List, Some, slice_get, string_bytes}
use Rattle.std.specs.Str.Lossy.{utf8_lossy}
use Rattle.std.specs.declared.io.ErrorKind.{ErrorKind}
use Rattle.std.specs.declared.io.ErrorKind.TheVariants.{OutOfMemory}
use Rattle.block_shelf.specs.Filling.{HasFailedAt}
use Rattle.cyc_block.specs.declared.store.BlockStore as blocks
use Rattle.relay_conf.specs.declared.cycbuff.BufferConf.{BufferConf}
use Rattle.relay_conf.specs.declared.settings.Config.{Config}
use Rattle.relay_report.specs.Serve.{NamesBuffer, NamesFile}
use Rattle.relay_report.specs.declared.fault.ServeError.{ServeError}
use Rattle.relay_report.specs.declared.fault.ServeError.TheVariants as faults

-- why a relay can't begin: memory was refused, or the system has no random numbers
abbrev pub unbegun_as : ErrorKind → ServeError
unbegun_as OutOfMemory = faults.Memory
unbegun_as kind = faults.Unseeded

-- memory was refused, the system had no random numbers, or a thread couldn't be started
abbrev pub IsRunFault : ServeError → Type 0
IsRunFault error =
    (error ≡ faults.Memory) ⊎ ((error ≡ faults.Unseeded) ⊎ (error ≡ faults.NoThread))

-- memory was refused, or the relay couldn't be stopped so that it can start again
abbrev pub IsStopFault : ServeError → Type 0
IsStopFault (faults.Stop fault) = Unit {0}
IsStopFault error = error ≡ faults.Memory

-- the device of a store has failed, and this is the name of its buffer's file, with a mark in the
-- place of what is no UTF-8
pub record NamesFailed {S : Type 0} (g : blocks.Ghosts S) (config : Config) (stores : List S)
    (name : List ℕ) : Type 0 where
  pub number : ℕ
  pub store : S
  pub buffer : BufferConf
  pub failed : HasFailedAt g stores number store
  pub there : slice_get config.buffers.buffers.items number ≡ Some buffer
  pub named : name ≡ utf8_lossy buffer.file

-- a relay over stores isn't run where memory was refused, where the system had no random numbers or
-- no thread, or where a device of theirs failed, whose file is named; or it can't start, which
-- names a buffer where that is at fault, or it couldn't be stopped so that it can start again
abbrev pub IsRelayFault : {S : Type 0} (g : blocks.Ghosts S) → Config → (stores : List S)
    → ServeError → Type 0
IsRelayFault g config stores (faults.File lost) =
    NamesFailed g config stores (string_bytes lost.name)
IsRelayFault g config stores (faults.Port lost) = ⊥
IsRelayFault g config stores faults.Control = ⊥
IsRelayFault g config stores (faults.Start fault) = NamesBuffer config fault
IsRelayFault g config stores (faults.Stop fault) = Unit {0}
IsRelayFault g config stores faults.Unseeded = Unit {0}
IsRelayFault g config stores faults.Memory = Unit {0}
IsRelayFault g config stores faults.NoThread = Unit {0}
IsRelayFault g config stores faults.Unwritten = ⊥

-- so, over the files of a configuration: the file of one of its buffers is named
abbrev pub IsServeFault : Config → ServeError → Type 0
IsServeFault config (faults.File lost) = NamesFile config (string_bytes lost.name)
IsServeFault config (faults.Start fault) = NamesBuffer config fault
IsServeFault config (faults.Stop fault) = Unit {0}
IsServeFault config (faults.Port lost) = ⊥
IsServeFault config faults.Control = ⊥
IsServeFault config faults.Unseeded = Unit {0}
IsServeFault config faults.Memory = Unit {0}
IsServeFault config faults.NoThread = Unit {0}
IsServeFault config faults.Unwritten = ⊥
