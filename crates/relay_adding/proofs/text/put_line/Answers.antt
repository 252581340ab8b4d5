use Rattle.std.proofs.Common.{codes}
use Rattle.relay_adding.specs.Telling.{named}
use Rattle.relay_adding.proofs.AddedLines.{parts_line}
use Rattle.relay_adding.proofs.text.put_line.Goals as goal

-- the numbers stand behind the name, and the line ends
pub returns : goal.returns
returns c =
    parts_line c.extend_from_slice-3.result c.args.text.now.items (codes "added buffer=")
    c.args.buffer.now.name (named (codes " number=") c.args.number)
    (named (codes " blocks=") c.args.buffer.now.blocks) (named (codes " stop=") c.args.stop)
    (codes "\n") c.extend_from_slice.new.self.items c.extend_from_slice-2.new.self.items
    c.put_named.new.text.items c.put_named-2.new.text.items c.put_named-3.new.text.items
    c.extend_from_slice-3.new.self.items c.in_ok-extend_from_slice.ensures.items
    (rw c.as_slice.ensures at c.in_ok-extend_from_slice-2.ensures.items)
    c.in_ok-put_named.ensures (rw c.from.ensures at c.in_ok-put_named-2.ensures)
    c.in_ok-put_named-3.ensures c.extend_from_slice-3.ensures.items
