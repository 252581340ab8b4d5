use Rattle.std.proofs.Common.{[], ◌∷◌, codes}
use Rattle.relay_report.proofs.Lines.{plain_line}
use Rattle.relay_report.proofs.text.put_ids.Goals as goal

-- the columns stand behind the word
pub returns : goal.returns
returns c =
    let ids = c.args.ids.now in
    plain_line c.put_numbers.result c.args.text.now.items (codes "ids    ")
    c.extend_from_slice.new.self.items c.put_numbers.new.text.items
    ((ids.offered, 11) ∷ (ids.storing, 11) ∷ (ids.stored, 11) ∷ (ids.refused, 11) ∷ [])
    c.in_ok-extend_from_slice.ensures.items c.put_numbers.ensures
