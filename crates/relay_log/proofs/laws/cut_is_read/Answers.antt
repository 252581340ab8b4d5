use Rattle.std.proofs.Common.{◌-◌, take}
use Rattle.relay_log.specs.Beginning.{whole_within}
use Rattle.relay_log.specs.Journal.{journal_octets}
use Rattle.relay_log.proofs.Beginnings.{written_alone}
use Rattle.relay_log.proofs.Cuts.{cut_text}
use Rattle.relay_log.proofs.laws.cut_is_read.Goals as goal

pub returns : goal.returns
returns c = λ stop entries journal n small are le.
    let cut = cut_text n stop entries le are in
    written_alone (take n (journal_octets stop entries)) stop (whole_within (n - 12) entries)
    cut.0 journal cut.1 small cut.3 cut.2
