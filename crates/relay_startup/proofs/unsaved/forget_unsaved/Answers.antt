use Rattle.std.proofs.Common.{◌≡◌, ◌∙◌, ap, rules, not, map}
use Rattle.std.proofs.lemmas.Fn.{filter_same}
use Rattle.std.specs.Prelude.{filter}
use Rattle.cyc_block.specs.Heads.{head_view}
use Rattle.id_history.specs.History.{KeptId}
use Rattle.id_history.specs.Views.{id_view}
use Rattle.id_history.specs.declared.kept.KeptId as kept
use Rattle.relay_startup.specs.Unsaved.{is_unsaved}
use Rattle.relay_startup.proofs.Kept.{map_filter}
use Rattle.relay_startup.proofs.unsaved.forget_unsaved.Goals as goal

-- those are left that the test leaves
pub returns-clause-ids : goal.returns-clause-ids
returns-clause-ids c =
    let test = λ (one : KeptId). not (is_unsaved (map head_view c.args.heads.now)
    (map id_view c.args.last.now) (map id_view c.args.kept.now) one) in
    let left : c.retain.new.self.items
    ≡ filter (λ (one : kept.KeptId). test (id_view one)) c.args.history.ids.items =
    filter_same _ _ _ (λ x b f' k. search rules) _ _ c.retain.ensures.filtered in
    ap (map id_view) left ∙ map_filter id_view test c.args.history.ids.items
