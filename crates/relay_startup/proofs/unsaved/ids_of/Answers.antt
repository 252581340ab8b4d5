use Rattle.std.proofs.Common.{map, refl, subst, sym, List, Some}
use Rattle.std.specs.List.Sorted.{IsStrictlySortedBy}
use Rattle.id_history.specs.History.{Rises}
use Rattle.id_history.specs.Views.{history_view, id_view}
use Rattle.id_history.specs.declared.kept.KeptId.{KeptId}
use Rattle.relay_repair.specs.Telling.{IsLast}
use Rattle.relay_startup.proofs.unsaved.ids_of.Goals as goal

-- they are those of the history that was read,
pub returns-in_ok-positions-in-Some-clause-ids : goal.returns-in_ok-positions-in-Some-clause-ids
returns-in_ok-positions-in-Some-clause-ids c =
    let kept = history_view c.in_ok-positions-in-Some.field-0 in
    record {
      kept = Some kept;
      is_last = subst (λ text. IsLast c.args.config.now text (Some kept)) c.in-Some.ensures
          (kept, refl, c.in_ok-positions-in-Some.ensures.reads);
      are = refl;
    }

-- or none
pub returns-in-None-clause-rises : goal.returns-in-None-clause-rises
unfolding IsStrictlySortedBy
returns-in-None-clause-rises c =
    subst (λ (ids : List KeptId). Rises (map id_view ids)) (sym c.new.ensures.items) tt
