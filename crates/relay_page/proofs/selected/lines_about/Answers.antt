use Rattle.std.proofs.Common.{◌≡◌, ◌∙◌, ap, map, rules}
use Rattle.std.proofs.lemmas.Fn.{filter_same}
use Rattle.std.specs.Prelude.{filter}
use Rattle.relay_metrics.specs.Lines.{line_view}
use Rattle.relay_metrics.specs.declared.lines.Line as code
use Rattle.relay_page.specs.Selected.{is_about, is_of}
use Rattle.relay_page.proofs.Kept.{viewed}
use Rattle.relay_page.proofs.selected.lines_about.Goals as goal

-- those are left that the test leaves
pub returns : goal.returns
returns c =
    let left : c.retain.new.self.items
    ≡ filter (λ (line : code.Line). is_about c.args.subject line.subject)
    c.in_ok-lines.lines.items =
    filter_same _ _ _ (λ x b f' k. search rules) _ _ c.retain.ensures.filtered in
    ap (map line_view) left ∙ viewed line_view (is_of c.args.subject) c.in_ok-lines.lines.items
    ∙ ap (filter (is_of c.args.subject)) c.in_ok-lines.ensures
