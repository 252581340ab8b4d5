-- Why a file or a port can't be had, as it is told (docs/PROTOCOL.md, Statuses).
use Rattle.std.specs.Prelude.{ℕ, List, codes}
use Rattle.relay_report.specs.declared.reason.Reason.{Reason}
use Rattle.relay_report.specs.declared.reason.Reason.TheVariants.{NoText, NoFolder, NoRight}
use Rattle.relay_report.specs.declared.reason.Reason.TheVariants.{NotRegular, Held, Shared, NoRoom}
use Rattle.relay_report.specs.declared.reason.Reason.TheVariants.{TooLarge, TooSmall, Unwritten}
use Rattle.relay_report.specs.declared.reason.Reason.TheVariants.{InUse, NoAddress, Refused}

-- the text of a reason, without the line's end
abbrev pub reason_text : Reason → List ℕ
reason_text NoText = codes "the name is no UTF-8"
reason_text NoFolder = codes "no such folder"
reason_text NoRight = codes "no right to it"
reason_text NotRegular = codes "not a regular file"
reason_text Held = codes "locked by another relay"
reason_text Shared = codes "the file of an earlier buffer"
reason_text NoRoom = codes "no room on the disk"
reason_text TooLarge = codes "no file may be so large"
reason_text TooSmall = codes "the device is smaller than the buffer"
reason_text Unwritten = codes "a block can't be written"
reason_text InUse = codes "in use"
reason_text NoAddress = codes "no such address on this machine"
reason_text Refused = codes "refused by the system"
