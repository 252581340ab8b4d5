use Rattle.std.proofs.Common.{sym}
use Rattle.std.proofs.lemmas.List.Splits.{join_with_byte-slice_split}
use Rattle.relay_drill.proofs.script.joined.Goals as goal

pub returns-in-Some : goal.returns-in-Some
returns-in-Some c = rw c.in-Some.is (sym (join_with_byte-slice_split 32 c.in-Some.text.now))
