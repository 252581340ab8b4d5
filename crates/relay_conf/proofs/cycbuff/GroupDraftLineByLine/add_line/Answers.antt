use Rattle.relay_conf.proofs.CycbuffReadings.{groups_step}
use Rattle.relay_conf.proofs.cycbuff.GroupDraftLineByLine.add_line.Goals as goal

pub returns : goal.returns
returns c = λ said number has.
    groups_step c.args.line.now c.args.self.now _ c.add_group_line.result c.args.over.now.items
    (rw c.deref.ensures.value at c.add_group_line.ensures.fault)
    (rw c.deref.ensures.value at c.add_group_line.ensures.groups) said has
