use Rattle.std.proofs.Common.{map, Vec, Global, vec_items, arith}
use Rattle.std.proofs.lemmas.List.{length-map}
use Rattle.relay_conf.specs.Lines.{lines_of}
use Rattle.relay_conf.specs.Places.{group_view}
use Rattle.relay_conf.specs.declared.cycbuff.BufferConf.{BufferConf}
use Rattle.relay_conf.specs.declared.cycbuff.GroupConf.{GroupConf}
use Rattle.relay_conf.proofs.CycbuffReadings.{buffers_fault, groups_fault, cycbuff_done}
use Rattle.relay_conf.proofs.SoundCycbuff.{cycbuff_is_sound}
use Rattle.relay_conf.proofs.cycbuff.read_cycbuff.Goals as goal

pub returns-in_err-buffers : goal.returns-in_err-buffers
returns-in_err-buffers c =
    buffers_fault (lines_of c.args.text.now) (vec_items {X = BufferConf} {Z = Global})
    c.from_residual.result c.in_err-buffers.field-0.0
    c.from_residual.ensures.1 c.in_err-buffers.ensures

pub returns-in_err-groups : goal.returns-in_err-groups
returns-in_err-groups c =
    groups_fault (lines_of c.args.text.now) _ c.in_ok-buffers.ensures
    (λ (groups : Vec GroupConf Global). map group_view groups.items)
    c.from_residual-in_err-groups.result c.in_err-groups.field-0.0
    c.from_residual-in_err-groups.ensures.1 c.in_err-groups.ensures

pub returns : goal.returns
returns c =
    cycbuff_done (lines_of c.args.text.now) _ c.in_ok-buffers.ensures _ c.in_ok-groups.ensures

pub invariant_of-result : goal.invariant_of-result
invariant_of-result c =
    let lines = lines_of c.args.text.now in
    let sound = cycbuff_is_sound lines _
    (cycbuff_done lines _ c.in_ok-buffers.ensures (map group_view c.in_ok-groups.groups.items)
    c.in_ok-groups.ensures) in
    record {
      sound = sound.sound;
      few_buffers = sound.few_buffers;
      few_groups = omega (
        arith,
        sound.few_groups,
        length-map c.in_ok-groups.groups.items group_view,
      );
    }
