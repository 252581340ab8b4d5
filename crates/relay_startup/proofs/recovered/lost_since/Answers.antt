use Rattle.std.proofs.Common.{◌∙◌, ap, map, None, refl, Some, subst}
use Rattle.std.proofs.lemmas.List.{get_or-replicate}
use Rattle.cyc_block.specs.Heads.{head_view}
use Rattle.id_history.specs.Views.{history_view, id_view}
use Rattle.relay_repair.specs.Telling.{IsLast}
use Rattle.relay_startup.specs.Recovered.{lost_in}
use Rattle.relay_startup.proofs.recovered.lost_since.Goals as goal

-- what was lost since the history that is kept
pub returns-in_ok-last-in-Some : goal.returns-in_ok-last-in-Some
returns-in_ok-last-in-Some c =
    let kept = history_view c.in_ok-last-in-Some.last in
    record {
      kept = Some kept;
      is_last = subst (λ text. IsLast c.args.config.now text (Some kept)) c.in-Some.ensures
          (kept, refl, c.in_ok-last-in-Some.ensures.reads);
      each = λ b within.
          c.lost_of-lost.ensures b within
          ∙ ap (λ ids. lost_in (map head_view c.args.heads.now) (map id_view c.args.found.now) b
          (map id_view ids)) c.deref.ensures.value;
    }

-- where none is kept nothing was lost
pub returns-in-None : goal.returns-in-None
returns-in-None c = record {
  kept = None;
  is_last = subst (λ text. IsLast c.args.config.now text None) c.in-None.ensures refl;
  each = λ b within. get_or-replicate 256 b 0 0 within;
}
