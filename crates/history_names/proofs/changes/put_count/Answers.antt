use Rattle.std.proofs.Common.{◌∙◌}
use Rattle.history_names.proofs.changes.put_count.Goals as goal

-- the number stands at the end of the line
pub returns : goal.returns
returns c = rw (c.deref.ensures.value ∙ c.in_ok-end.ensures) at c.put_line.ensures
