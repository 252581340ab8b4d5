use Rattle.relay_explain.specs.Buffers.{group_told}
use Rattle.relay_explain.proofs.Puts.{two}
use Rattle.relay_explain.proofs.groups.put_group_told.Goals as goal

pub returns : goal.returns
unfolding group_told
returns c =
    let members = rw c.deref.ensures.value at c.put_members.ensures in
    two c.put_mode-text.ensures members
