use Rattle.std.proofs.Common.{◌++◌, refl}
use Rattle.relay_log.specs.Beginning.{zeros}
use Rattle.relay_log.specs.Journal.{journal_octets}
use Rattle.relay_log.proofs.Beginnings.{written_alone, zeros_begin_none}
use Rattle.relay_log.proofs.laws.zeros_end_it.Goals as goal

pub returns : goal.returns
returns c = λ stop entries journal n small are.
    written_alone (journal_octets stop entries ++ zeros n) stop entries (zeros n) journal refl
    small are (zeros_begin_none n)
