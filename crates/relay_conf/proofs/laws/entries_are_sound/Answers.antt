use Rattle.std.proofs.Common.{◌<◌, ◌^◌, arith, get_or, length}
use Rattle.std.proofs.lemmas.List.Elements.{All-map}
use Rattle.news_terms.specs.StorageClass.{Entry}
use Rattle.relay_conf.specs.Settings.{places_of_groups}
use Rattle.relay_conf.specs.Storage.{entry_view}
use Rattle.relay_conf.proofs.SoundCycbuff.{as_many_groups}
use Rattle.relay_conf.proofs.laws.entries_are_sound.Goals as goal

pub returns-clause-classes : goal.returns-clause-classes
returns-clause-classes c =
    let storage_entries = c.args.config.now.storage_entries.items in
    All-map (λ (entry : Entry). entry.class < 2 ^ 8) entry_view storage_entries
    (λ k d within. (get_or storage_entries k d).fits)

pub returns-clause-groups : goal.returns-clause-groups
returns-clause-groups c =
    let config = c.args.config.now in
    All-map (λ (entry : Entry). entry.group < length (places_of_groups config.buffers)) entry_view
    config.storage_entries.items
    (λ k d within. omega (arith, config.grouped k d within, as_many_groups config.buffers))
