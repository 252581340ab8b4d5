use Rattle.std.proofs.Common.{◌++◌, [], List, ap, append-nil, map, subst}
use Rattle.id_history.specs.History.{KeptId}
use Rattle.id_history.specs.Lasting.{AreLasting, put_all}
use Rattle.id_history.specs.Views.{id_view}
use Rattle.relay_log.specs.Folding.{all_told, nothing}
use Rattle.relay_log.specs.Views.{entry_view}
use Rattle.relay_log.proofs.folding.ids_folded.Goals as goal

-- the entries were said, and before them the ids
pub returns : goal.returns
returns c =
    let entries : List KeptId = all_told c.args.buffers (map entry_view c.args.entries.items) in
    let ids : List KeptId = map id_view c.args.ids.items in
    subst (AreLasting (map id_view c.in_ok-new.new.items))
    (ap (λ (said : List KeptId). put_all nothing (ids ++ said)) (append-nil entries))
    (c.in_ok-new.ensures.lasting (put_all nothing (ids ++ (entries ++ [])))
    (c.in_ok-say_ids.ensures (entries ++ [])
    (c.in_ok-say_entries.ensures [] c.in_ok-shards.ensures)))
