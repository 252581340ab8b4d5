use Rattle.line_words.proofs.Behind.{behind, ends}
use Rattle.relay_serve.proofs.filled.put_size.Goals as goal

-- the parts of the line stand behind one another
pub returns : goal.returns
returns c =
    let text = c.args.text.now.items in
    let named = behind text _ _ c.extend_from_slice.new.self.items
    c.extend_from_slice-2.new.self.items c.in_ok-extend_from_slice.ensures.items
    (rw c.as_slice.ensures at c.in_ok-extend_from_slice-2.ensures.items) in
    let large = behind text _ _ c.extend_from_slice-2.new.self.items c.put_blocks.new.text.items
    named (rw c.from.ensures at c.in_ok-put_blocks.ensures) in
    let filled = behind text _ _ c.put_blocks.new.text.items c.put_blocks-2.new.text.items large
    (rw c.filled_blocks.ensures at c.in_ok-put_blocks-2.ensures) in
    ends c.extend_from_slice-3.result text _ _ c.put_blocks-2.new.text.items
    c.extend_from_slice-3.new.self.items filled c.extend_from_slice-3.ensures.items
