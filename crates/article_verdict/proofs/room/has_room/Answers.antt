use Rattle.std.proofs.Common.{◌∙◌, ap, length, refl, sym}
use Rattle.std.proofs.lemmas.Bool.{ltb-true, ltb-false}
use Rattle.std.proofs.lemmas.Option.{slice_get_read, slice_get_past}
use Rattle.std.specs.Prelude.{slice_get}
use Rattle.article_verdict.proofs.GroupRoom.{all_have_room, no_room, room_in}
use Rattle.article_verdict.proofs.room.has_room.Goals as goal

pub returns-in-Some : goal.returns-in-Some
returns-in-Some c =
    let settings = c.args.settings.now in
    let group = c.in-Some.group.now in
    c.have_room.ensures
    ∙ ap (λ all. all_have_room all c.blocks_of.result c.deref-in-Some-2.result.now)
    c.deref-in-Some.ensures.value
    ∙ ap (λ numbers. all_have_room settings.buffers.items c.blocks_of.result numbers)
    c.deref-in-Some-2.ensures.value
    ∙ ap (λ blocks. all_have_room settings.buffers.items blocks group.buffers.items)
    c.blocks_of.ensures
    ∙ sym (room_in settings c.args.group _ group
    (ap (λ groups. slice_get groups c.args.group) (sym c.deref.ensures.value)
    ∙ slice_get_read c.deref.result.now (length c.deref.result.now) c.args.group group refl
    (ltb-true _ _ (sym c.in-Some.ensures.lookup.0)) c.in-Some.ensures.lookup.1))

pub returns-in-None : goal.returns-in-None
returns-in-None c =
    let settings = c.args.settings.now in
    sym (no_room settings c.args.group _
    (ap (λ groups. slice_get groups c.args.group) (sym c.deref.ensures.value)
    ∙ slice_get_past c.deref.result.now c.args.group
    (ltb-false _ _ (sym c.in-None.ensures.lookup.0))))
