use Rattle.std.proofs.Common.{◌∙◌, ap, sym, drop, take}
use Rattle.std.proofs.lemmas.List.{take_at}
use Rattle.relay_log.specs.Journal.{journal_octets}
use Rattle.relay_log.proofs.laws.beginning_was_written.Goals as goal

pub returns : goal.returns
returns c = λ text journal longest.
    ap (take journal.octets) longest.whole
    ∙ take_at (journal_octets journal.stop journal.entries) (drop journal.octets text)
    journal.octets (sym longest.octets)
