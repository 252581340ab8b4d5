-- Why a relay can't start from its buffers.
use Rattle.std.specs.Prelude.{◌≡◌, ℕ, Option, None, Some, slice_get, string_bytes}
use Rattle.std.specs.IoError.{error_kind}
use Rattle.std.specs.Str.Lossy.{utf8_lossy}
use Rattle.block_shelf.specs.declared.starting.StopFault.{StopFault}
use Rattle.block_shelf.specs.declared.starting.StopFault.TheVariants as reasons
use Rattle.buffer_files.specs.Faults.{unbegun_as}
use Rattle.relay_conf.specs.declared.cycbuff.BufferConf.{BufferConf}
use Rattle.relay_conf.specs.declared.settings.Buffers.{Buffers}
use Rattle.relay_core.specs.declared.stopped.NotStarted.{NotStarted}
use Rattle.relay_core.specs.declared.stopped.NotStarted.TheVariants as nots
use Rattle.relay_report.specs.declared.fault.ServeError.{ServeError}
use Rattle.relay_report.specs.declared.fault.ServeError.TheVariants as faults
use Rattle.relay_report.specs.declared.keeping.BufferFault.{BufferFault}
use Rattle.relay_report.specs.declared.keeping.BufferFault.TheVariants.{Device, NoHead, Unclosed}
use Rattle.relay_report.specs.declared.keeping.BufferFault.TheVariants.{Damaged, Mixed}
use Rattle.relay_report.specs.declared.keeping.HistoryFault.TheVariants.{Text}
use Rattle.relay_report.specs.declared.keeping.StartFault.TheVariants as starts

-- this buffer has this fault, by its name, or there was no memory to say so
abbrev pub IsFaultOfBuffer : Option BufferConf → BufferFault → ServeError → Type 0
IsFaultOfBuffer (Some buffer) fault (faults.Start (starts.Buffer name found)) =
    (string_bytes name ≡ utf8_lossy buffer.name) × (found ≡ fault)
IsFaultOfBuffer buffer fault error = error ≡ faults.Memory

-- the buffer of this number has this fault
abbrev pub IsBufferFaultAt : Buffers → (number : ℕ) → BufferFault → ServeError → Type 0
IsBufferFaultAt settings number fault error =
    IsFaultOfBuffer (slice_get settings.buffers.items number) fault error

-- the buffer of this number has this fault; without a number there was no memory to say so
abbrev pub IsFaultAtAny : Buffers → (number : Option ℕ) → BufferFault → ServeError → Type 0
IsFaultAtAny settings (Some number) fault error = IsBufferFaultAt settings number fault error
IsFaultAtAny settings None fault error = error ≡ faults.Memory

-- A start that is refused for this reason is told so: by the buffer of this number where the reason
-- is one of a buffer, else by the history, or as want of memory. The text of the history was read
-- before it is started from; if it were none any more, that would be told as any other text.
abbrev pub IsRefusal : Buffers → (number : Option ℕ) → StopFault → ServeError → Type 0
IsRefusal settings number reasons.Memory error = error ≡ faults.Memory
IsRefusal settings number reasons.Device error = IsFaultAtAny settings number Device error
IsRefusal settings number reasons.NoHead error = IsFaultAtAny settings number NoHead error
IsRefusal settings number reasons.Unclosed error = IsFaultAtAny settings number Unclosed error
IsRefusal settings number reasons.Damaged error = IsFaultAtAny settings number Damaged error
IsRefusal settings number reasons.BadHistory error = error ≡ faults.Start (starts.BadHistory Text)
IsRefusal settings number reasons.Mixed error = IsFaultAtAny settings number Mixed error
IsRefusal settings number reasons.Ahead error = error ≡ faults.Start starts.Ahead

-- why a relay isn't started is told so
abbrev pub IsUnstartedAs : {S : Type 0} → Buffers → NotStarted S → ServeError → Type 0
IsUnstartedAs settings (nots.Host why back) error = error ≡ unbegun_as (error_kind why)
IsUnstartedAs settings (nots.Refused refused) error =
    IsRefusal settings refused.buffer refused.error error
