use Rattle.std.proofs.Common.{map, Vec, Global}
use Rattle.relay_conf.specs.Cycbuff.{late_fault}
use Rattle.relay_conf.specs.CycbuffDraft.{HasGroups}
use Rattle.relay_conf.specs.Lines.{lines_of}
use Rattle.relay_conf.specs.Places.{group_view}
use Rattle.relay_conf.specs.declared.cycbuff.GroupConf.{GroupConf}
use Rattle.relay_conf.proofs.CycbuffReadings.{draft_error, groups_done}
use Rattle.relay_conf.proofs.cycbuff.read_groups.Goals as goal

pub returns-in_err-draft : goal.returns-in_err-draft
returns-in_err-draft c =
    let known = c.args.buffers.now.items in
    draft_error (λ (groups : Vec GroupConf Global). map group_view groups.items) (late_fault known)
    (HasGroups known) (lines_of c.args.text.now) c.in_err-draft.field-0.0 c.from_residual.result _
    c.from_residual.ensures.1 (c.in_err-draft.ensures (c.new.ensures known))

pub returns : goal.returns
returns c =
    let known = c.args.buffers.now.items in
    groups_done known (lines_of c.args.text.now) c.in_ok-draft.draft
    (c.in_ok-draft.ensures (c.new.ensures known))
