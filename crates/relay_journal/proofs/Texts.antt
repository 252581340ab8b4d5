-- The text of a journal with entries behind it.
use Rattle.std.proofs.Common.{◌≡◌, ◌∙◌, ◌++◌, ap, append_assoc, sym, List, ℕ}
use Rattle.std.proofs.lemmas.List.Concat.{flat_map-append}
use Rattle.std.specs.List.{flat_map}
use Rattle.relay_log.specs.Journal.{Entry, entry_octets, front_octets, journal_octets}

-- octets of entries behind the text of others are the text of both
pub more_entries : (stop : ℕ) (entries more : List Entry)
    → journal_octets stop entries ++ flat_map entry_octets more
    ≡ journal_octets stop (entries ++ more)
more_entries stop entries more =
    append_assoc (front_octets stop) (flat_map entry_octets entries) (flat_map entry_octets more)
    ∙ ap (λ (octets : List ℕ). front_octets stop ++ octets)
    (sym (flat_map-append entry_octets entries more))
