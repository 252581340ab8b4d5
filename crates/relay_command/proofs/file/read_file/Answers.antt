use Rattle.std.proofs.Common.{sym, subst, vec_items}
use Rattle.relay_command.specs.Files.{CannotBeRead}
use Rattle.relay_command.proofs.FilesRead.{not_opened, read_or_not}
use Rattle.relay_command.proofs.file.read_file.Goals as goal

pub returns-in-Ok : goal.returns-in-Ok
returns-in-Ok g c = read_or_not vec_items c.read_all.result _ c.read_all.ensures

pub returns-in-Err : goal.returns-in-Err
returns-in-Err g c = subst CannotBeRead (sym c.unopened.ensures) (not_opened _)
