use Rattle.std.proofs.Common.{◌∙◌}
use Rattle.std.proofs.lemmas.Result.{on_ok_weaker}
use Rattle.history_names.proofs.Lines.{adds_one, on_ok}
use Rattle.history_names.proofs.changes.put_line.Goals as goal

-- the line with its end is put
pub returns : goal.returns
returns c =
    on_ok_weaker c.extend_from_slice.result
    (
    adds_one c.args.out.now.items c.extend_from_slice.new.self.items c.deref.result.now
    c.args.before.now c.args.name.now c.args.after.now
    (c.deref.ensures.value ∙ (rw c.as_slice.ensures at c.in_ok-line.ensures))
    )
    (
    on_ok c.extend_from_slice.result c.args.out.now.items c.extend_from_slice.new.self.items
    c.deref.result.now c.extend_from_slice.ensures.items
    )
