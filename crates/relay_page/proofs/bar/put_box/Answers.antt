use Rattle.line_words.proofs.Behind.{behind, ends}
use Rattle.relay_page.proofs.bar.put_box.Goals as goal

-- the number stands between the boxes' marks
pub returns : goal.returns
returns c =
    ends c.extend_from_slice-2.result c.args.text.now.items _ _ c.put_number.new.text.items
    c.extend_from_slice-2.new.self.items
    (behind c.args.text.now.items _ _ c.extend_from_slice.new.self.items
    c.put_number.new.text.items c.in_ok-extend_from_slice.ensures.items c.in_ok-put_number.ensures)
    c.extend_from_slice-2.ensures.items
