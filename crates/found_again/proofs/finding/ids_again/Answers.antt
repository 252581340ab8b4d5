use Rattle.std.proofs.Common.{map, subst}
use Rattle.id_history.specs.Lasting.{AreLasting}
use Rattle.id_history.specs.Views.{id_view}
use Rattle.relay_model.specs.Claims.{Unknown}
use Rattle.found_again.specs.Finding.{all_found, known_again}
use Rattle.found_again.proofs.FindLemmas.{known_is}
use Rattle.found_again.proofs.HoldLemmas.{ids_hold}
use Rattle.found_again.proofs.finding.ids_again.Goals as goal

-- the claims are those of the state that is found
pub returns-clause-ids : goal.returns-clause-ids
returns-clause-ids c w found are lists at =
    subst (AreLasting (map id_view c.in_ok-ids.ids.items))
    (λ i id. known_is w found c.args.texts.now c.args.listed.now c.args.now are
    c.in_ok-find_all.ensures.some lists at id i)
    (c.in_ok-ids.ensures.lasting (known_again c.args.now c.args.texts.now c.args.listed.now)
    (c.in_ok-refuse_all.ensures (all_found c.args.now (λ id. Unknown) c.args.texts.now)
    (c.in_ok-find_all.ensures.keeps (λ id. Unknown) c.in_ok-shards.ensures)))

-- they rise
pub returns-clause-rises : goal.returns-clause-rises
returns-clause-rises c =
    (c.in_ok-ids.ensures.lasting (known_again c.args.now c.args.texts.now c.args.listed.now)
    (c.in_ok-refuse_all.ensures (all_found c.args.now (λ id. Unknown) c.args.texts.now)
    (c.in_ok-find_all.ensures.keeps (λ id. Unknown) c.in_ok-shards.ensures))).rises

-- they fit the setting
pub returns-clause-holds : goal.returns-clause-holds
returns-clause-holds c buffers there in_time now_is =
    ids_hold buffers c.args.now c.args.texts.now c.args.listed.now
    (map id_view c.in_ok-ids.ids.items) there in_time now_is
    (c.in_ok-ids.ensures.lasting (known_again c.args.now c.args.texts.now c.args.listed.now)
    (c.in_ok-refuse_all.ensures (all_found c.args.now (λ id. Unknown) c.args.texts.now)
    (c.in_ok-find_all.ensures.keeps (λ id. Unknown) c.in_ok-shards.ensures)))
