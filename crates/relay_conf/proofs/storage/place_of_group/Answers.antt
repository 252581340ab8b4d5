use Rattle.std.proofs.Common.{◌∙◌, ap, arith, sym, Bool}
use Rattle.std.specs.Prelude.{bytes_eq}
use Rattle.line_words.proofs.Cuts.{position_map}
use Rattle.relay_conf.specs.Cycbuff.{Group}
use Rattle.relay_conf.specs.Places.{group_view}
use Rattle.relay_conf.specs.declared.cycbuff.GroupConf.{GroupConf}
use Rattle.relay_conf.proofs.Numbered.{later, found_at}
use Rattle.relay_conf.proofs.storage.place_of_group.Goals as goal

pub loop-place-init : goal.loop-place-init
loop-place-init c =
    position_map (λ (group : Group). bytes_eq c.args.name.now group.name) group_view
    c.args.groups.now
    ∙ omega arith

pub loop-place-preserved : goal.loop-place-preserved
loop-place-preserved c =
    let has : GroupConf → Bool = λ group. bytes_eq c.args.name.now group.name in
    later has c.args.groups.now c.loop-place.place _ c.index-groups-place.result
    c.loop-place-test.true c.loop-place.invariant
    (sym (c.is.ensures ∙ ap (bytes_eq c.args.name.now) c.as_slice.ensures
    ∙ ap has c.index-groups-place.is)
    ∙ c.if-is.false)

pub returns-then-is : goal.returns-then-is
returns-then-is c =
    let has : GroupConf → Bool = λ group. bytes_eq c.args.name.now group.name in
    found_at has c.args.groups.now c.loop-place.place _ c.index-groups-place.result
    c.loop-place-test.true c.loop-place.invariant
    (sym (c.is.ensures ∙ ap (bytes_eq c.args.name.now) c.as_slice.ensures
    ∙ ap has c.index-groups-place.is)
    ∙ c.if-is.true)
