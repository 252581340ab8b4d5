use Rattle.std.proofs.Common.{sym}
use Rattle.relay_conf.proofs.FileLines.{ignored_some}
use Rattle.relay_conf.proofs.cycbuff_lines.ignored_line.Goals as goal

pub returns-in-Some : goal.returns-in-Some
returns-in-Some c = rw c.in-Some.is (sym (ignored_some c.in-Some.field-0.now))
