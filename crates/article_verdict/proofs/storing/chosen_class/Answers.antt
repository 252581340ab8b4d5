use Rattle.std.proofs.Common.{ap, map, option_map, List, ℕ, ◌∙◌}
use Rattle.news_terms.specs.StorageClass.{chosen_entry}
use Rattle.relay_conf.specs.Choice.{given, octets_of}
use Rattle.relay_conf.specs.Storage.{entry_view}
use Rattle.relay_conf.specs.declared.settings.StorageEntry.{StorageEntry}
use Rattle.article_verdict.proofs.storing.chosen_class.Goals as goal

-- the entry is the one that the names fall to
pub returns : goal.returns
returns c =
    let octets = c.args.octets in
    let entries = map entry_view c.args.config.now.storage_entries.items in
    c.choose-class.ensures
    ∙ ap (λ (all : List StorageEntry). option_map given
    (chosen_entry (map entry_view all) (map octets_of c.deref-2.result.now) octets))
    c.deref.ensures.value
    ∙ ap (λ (names : List (List ℕ)). option_map given (chosen_entry entries names octets))
    (ap (map octets_of) c.deref-2.ensures.value ∙ c.in_ok-groups.ensures)
