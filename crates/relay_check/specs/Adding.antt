-- Why buffers aren't added to a relay that was stopped (docs/PROTOCOL.md, `add-buffer`).
use Rattle.std.specs.Prelude.{◌≡◌, Any, string_bytes}
use Rattle.std.specs.Str.Lossy.{utf8_lossy}
use Rattle.std.specs.declared.io.ErrorKind.{ErrorKind}
use Rattle.std.specs.declared.io.ErrorKind.TheVariants.{OutOfMemory}
use Rattle.relay_adding.specs.declared.flushing.Unadded.{Unadded}
use Rattle.relay_adding.specs.declared.flushing.Unadded.TheVariants as unadded
use Rattle.relay_conf.specs.declared.settings.Buffers.{Buffers}
use Rattle.relay_report.specs.declared.fault.ServeError.{ServeError}
use Rattle.relay_report.specs.declared.fault.ServeError.TheVariants as faults
use Rattle.relay_report.specs.declared.keeping.BufferFault.TheVariants.{NoHead}
use Rattle.relay_report.specs.declared.keeping.StartFault.TheVariants as starts
use Rattle.buffer_files.specs.Files.{IsFaultAt}

-- why the socket in the folder can't be had, by the kind of the system's error
abbrev pub control_fault : ErrorKind → ServeError
control_fault OutOfMemory = faults.Memory
control_fault kind = faults.Control

-- memory was refused, the file of a buffer can't be had, or a buffer has no head block, by its name
abbrev pub IsFileOrHead : Buffers → ServeError → Type 0
IsFileOrHead settings (faults.File lost) =
    Any (λ buffer. string_bytes lost.name ≡ utf8_lossy buffer.file) settings.buffers.items
IsFileOrHead settings (faults.Start (starts.Buffer name fault)) =
    (fault ≡ NoHead)
    × Any (λ buffer. string_bytes name ≡ utf8_lossy buffer.name) settings.buffers.items
IsFileOrHead settings error = error ≡ faults.Memory

-- why buffers aren't made is told so: as want of memory, or as the file of the buffer whose device
-- failed
abbrev pub IsUnmade : Buffers → Unadded → ServeError → Type 0
IsUnmade settings unadded.Memory error = error ≡ faults.Memory
IsUnmade settings (unadded.Device number) error = IsFaultAt settings number error
