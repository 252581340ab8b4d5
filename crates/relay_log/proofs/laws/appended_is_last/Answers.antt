use Rattle.std.proofs.Common.{◌∙◌, ◌++◌, ap, sym, append_assoc, List, ℕ}
use Rattle.std.specs.List.{flat_map}
use Rattle.relay_log.specs.Journal.{entry_octets, front_octets}
use Rattle.relay_log.proofs.Texts.{octets_push}
use Rattle.relay_log.proofs.laws.appended_is_last.Goals as goal

pub returns : goal.returns
returns c = λ stop entries entry.
    ap (λ (o : List ℕ). front_octets stop ++ o) (octets_push entries entry)
    ∙ sym (append_assoc (front_octets stop) (flat_map entry_octets entries) (entry_octets entry))
