-- The files of the buffers (docs/FORMATS.md, cycbuff.conf).
use Rattle.std.specs.Prelude.{◌≡◌, ℕ, Any, IsTrue, Some, slice_get, string_bytes}
use Rattle.std.specs.Str.Lossy.{utf8_lossy}
use Rattle.file_blocks.specs.Host.{IsEmptied, held_identity}
use Rattle.file_blocks.specs.Store.{file_of, was_blank}
use Rattle.file_blocks.specs.declared.host.HeldFile.{HeldFile}
use Rattle.file_blocks.specs.declared.host.HostFile.{HostFile}
use Rattle.file_blocks.specs.declared.store.FileBlocks.{FileBlocks}
use Rattle.relay_conf.specs.declared.cycbuff.BufferConf.{BufferConf}
use Rattle.relay_conf.specs.declared.settings.Buffers.{Buffers}
use Rattle.relay_report.specs.declared.fault.ServeError.{ServeError}
use Rattle.relay_report.specs.declared.reason.Reason.{Reason}
use Rattle.relay_report.specs.declared.fault.ServeError.TheVariants as faults

-- memory was refused, or the file of this buffer can't be had, by its name
abbrev pub IsFaultOf : BufferConf → ServeError → Type 0
IsFaultOf buffer (faults.File lost) = string_bytes lost.name ≡ utf8_lossy buffer.file
IsFaultOf buffer error = error ≡ faults.Memory

-- memory was refused, or the file of a buffer can't be had, by its name
abbrev pub IsFileFault : Buffers → ServeError → Type 0
IsFileFault settings (faults.File lost) =
    Any (λ buffer. string_bytes lost.name ≡ utf8_lossy buffer.file) settings.buffers.items
IsFileFault settings error = error ≡ faults.Memory

-- memory was refused, or the file of the buffer of this number can't be had, by its name
abbrev pub IsFaultAt : Buffers → ℕ → ServeError → Type 0
IsFaultAt settings number (faults.File lost) =
    (buffer : BufferConf) × (slice_get settings.buffers.items number ≡ Some buffer)
    × (string_bytes lost.name ≡ utf8_lossy buffer.file)
IsFaultAt settings number error = error ≡ faults.Memory

-- the fault of a file has this reason
abbrev pub HasReason : Reason → ServeError → Type 0
HasReason reason (faults.File lost) = lost.reason ≡ reason
HasReason reason error = error ≡ faults.Memory

-- both are one file, whatever its names: the same inode of the same device, or one block device
abbrev pub SharesFile : (file other : HeldFile) → Type 0
SharesFile file other = held_identity file ≡ held_identity other

-- they are two files
abbrev pub DifferentFiles : (file other : HeldFile) → Type 0
DifferentFiles file other = ¬ SharesFile file other

-- the file of a store was emptied since it was opened
abbrev pub WasEmptied : FileBlocks HostFile → Type 0
WasEmptied store = IsEmptied (file_of store)

-- no buffer was found in the file of a store
abbrev pub WasBlank : {F : Type 0} → FileBlocks F → Type 0
WasBlank store = IsTrue (was_blank store)
