use Rattle.std.proofs.Common.{[], ◌∷◌, codes}
use Rattle.relay_report.proofs.Lines.{named_line}
use Rattle.relay_report.specs.Text.{name_column}
use Rattle.relay_report.proofs.text.put_buffer.Goals as goal

-- the columns stand behind the name
pub returns : goal.returns
returns c =
    let figures = c.args.buffer.now.figures in
    named_line c.put_numbers.result c.args.text.now.items (codes "buffer ")
    (name_column c.args.buffer.now.name) c.extend_from_slice.new.self.items
    c.put_name.new.text.items c.put_numbers.new.text.items
    ((figures.cycle, 11) ∷ (figures.front, 20) ∷ (figures.begun, 11) ∷ (figures.stored, 11) ∷ [])
    c.in_ok-extend_from_slice.ensures.items (rw c.as_slice.ensures at c.in_ok-put_name.ensures)
    c.put_numbers.ensures
