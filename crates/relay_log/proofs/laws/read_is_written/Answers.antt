use Rattle.std.proofs.Common.{sym, []}
use Rattle.std.proofs.lemmas.List.{append-nil}
use Rattle.relay_log.specs.Journal.{journal_octets}
use Rattle.relay_log.proofs.Beginnings.{written_alone, zeros_begin_none}
use Rattle.relay_log.proofs.laws.read_is_written.Goals as goal

pub returns : goal.returns
returns c = λ stop entries journal small are.
    written_alone (journal_octets stop entries) stop entries [] journal
    (sym (append-nil (journal_octets stop entries))) small are (zeros_begin_none 0)
