use Rattle.std.proofs.Common.{◌++◌, arith}
use Rattle.relay_log.specs.Beginning.{zeros}
use Rattle.relay_log.specs.Journal.{counted_octets}
use Rattle.relay_log.proofs.Beginnings.{none_begins}
use Rattle.relay_log.proofs.Checked.{other_check}
use Rattle.relay_log.proofs.Sums.{check_is_not_zero}
use Rattle.relay_log.proofs.laws.unwritten_check_ends_it.Goals as goal

pub returns : goal.returns
returns c = λ said rest small.
    none_begins ((counted_octets said ++ zeros 4) ++ rest)
    (other_check said rest 0 small (omega arith) (check_is_not_zero (counted_octets said)))
