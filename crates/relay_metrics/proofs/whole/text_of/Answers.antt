use Rattle.std.proofs.Common.{map}
use Rattle.relay_metrics.specs.Lines.{line_view}
use Rattle.relay_metrics.proofs.Together.{together}
use Rattle.relay_metrics.proofs.whole.text_of.Goals as goal

-- The families of the code are those of the definitions.
pub returns : goal.returns
returns c =
    together (map line_view c.args.lines.now) c.unread_in.result c.new-text.result.items
    c.put_families.new.text.items c.put_count.new.text.items c.extend_from_slice.new.self.items
    c.new-text.ensures.items c.in_ok-put_families.ensures c.unread_in.ensures
    c.in_ok-put_count.ensures c.in_ok-extend_from_slice.ensures.items
