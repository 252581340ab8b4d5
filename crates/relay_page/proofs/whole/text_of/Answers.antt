use Rattle.relay_metrics.specs.Lines.{report_lines}
use Rattle.relay_page.proofs.Together.{together}
use Rattle.relay_page.proofs.whole.text_of.Goals as goal

-- The sections of the code are those of the definitions.
pub returns : goal.returns
returns c =
    together (report_lines c.args.report.now) c.most_waiting-most.result c.unread_in.result
    c.new-text.result.items c.put_section.new.text.items c.put_sized.new.text.items
    c.put_sections.new.text.items c.put_foot.new.text.items
    (rw c.requires at c.most_waiting-most.ensures) c.new-text.ensures.items
    (rw c.requires at c.in_ok-put_section.ensures) c.in_ok-put_sized.ensures
    (rw c.requires at c.in_ok-put_sections.ensures) (rw c.requires at c.unread_in.ensures)
    c.in_ok-put_foot.ensures
