use Rattle.std.proofs.Common.{◌++◌}
use Rattle.std.specs.Int.{to_be_bytes, w32}
use Rattle.relay_log.specs.Journal.{counted_octets}
use Rattle.relay_log.proofs.Beginnings.{none_begins}
use Rattle.relay_log.proofs.Checked.{other_check}
use Rattle.relay_log.proofs.laws.other_check_ends_it.Goals as goal

pub returns : goal.returns
returns c = λ said rest sum small fits differs.
    none_begins ((counted_octets said ++ to_be_bytes w32 sum) ++ rest)
    (other_check said rest sum small fits differs)
