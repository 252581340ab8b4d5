-- Why a file can't be had, by the system's error (docs/PROTOCOL.md, Statuses).
use Rattle.std.specs.Prelude.{Option, None, Some}
use Rattle.std.specs.IoError.{error_kind}
use Rattle.std.specs.declared.io.ErrorKind.{ErrorKind}
use Rattle.std.specs.declared.io.ErrorKind.TheVariants as kinds
use Rattle.file_blocks.specs.declared.host.Unusable.{Unusable}
use Rattle.file_blocks.specs.declared.host.Unusable.TheVariants as unusable
use Rattle.relay_report.specs.declared.reason.Reason.{Reason}
use Rattle.relay_report.specs.declared.reason.Reason.TheVariants.{NoFolder, NoRight, NotRegular}
use Rattle.relay_report.specs.declared.reason.Reason.TheVariants.{Held, NoRoom, TooLarge}
use Rattle.relay_report.specs.declared.reason.Reason.TheVariants.{TooSmall, Unwritten, Refused}

-- why the system refused a file, by the kind of its error; want of memory is none of these
abbrev pub file_reason : ErrorKind → Option Reason
file_reason kinds.OutOfMemory = None
file_reason kinds.NotFound = Some NoFolder
file_reason kinds.NotADirectory = Some NoFolder
file_reason kinds.PermissionDenied = Some NoRight
file_reason kinds.ReadOnlyFilesystem = Some NoRight
file_reason kinds.IsADirectory = Some NotRegular
file_reason kinds.StorageFull = Some NoRoom
file_reason kinds.QuotaExceeded = Some NoRoom
file_reason kinds.FileTooLarge = Some TooLarge
file_reason kind = Some Refused

-- why a file can't be used; want of memory is none of the reasons
abbrev pub reason_of : Unusable → Option Reason
reason_of unusable.NotRegular = Some NotRegular
reason_of unusable.Locked = Some Held
reason_of unusable.TooSmall = Some TooSmall
reason_of unusable.Unwritten = Some Unwritten
reason_of (unusable.Refused error) = file_reason (error_kind error)
