use Rattle.std.proofs.Common.{ℕ, List, map, get_or, option_map, refl, ap, sym}
use Rattle.std.proofs.Common.{ap₂, ◌∙◌}
use Rattle.std.proofs.lemmas.Option.{slice_get-get_or, slice_get-map, slice_get_read}
use Rattle.named_history.specs.Naming.{name_of, turn_by}
use Rattle.named_history.specs.Places.{place_of}
use Rattle.relay_names.specs.Views.{group_view}
use Rattle.relay_names.specs.declared.names.GroupNames.{GroupNames}
use Rattle.named_history.proofs.TurnLemmas.{position_past, position_there}
use Rattle.named_history.proofs.groups.position_by.Goals as goal

pub returns-then-place-kept : goal.returns-then-place-kept
returns-then-place-kept c =
    let known = map group_view c.args.known.now in
    position_past known c.args.kept.now (group_view c.args.own.now) c.in-Some.place
    (ap (λ (name : List ℕ). place_of name (map name_of known)) (sym c.as_slice.ensures)
    ∙ sym c.group_place.ensures.place ∙ c.in-Some.is) c.if-place-kept.true

pub returns : goal.returns
returns c =
    let known = map group_view c.args.known.now in
    let place = c.in-Some.place in
    let old = c.index-known-place.result in
    let position = get_or c.args.kept.now place 0 in
    c.turn_by.ensures
    ∙ ap₂ (λ (had has : List (List ℕ)). turn_by had position has)
    (c.deref.ensures.value
    ∙ ap (λ (group : GroupNames). group.buffers.items) (sym c.index-known-place.is))
    c.deref-2.ensures.value
    ∙ position_there known c.args.kept.now (group_view c.args.own.now) (group_view old) place
    position
    (ap (λ (name : List ℕ). place_of name (map name_of known)) (sym c.as_slice.ensures)
    ∙ sym c.group_place.ensures.place ∙ c.in-Some.is)
    (slice_get-map group_view c.args.known.now place
    ∙ ap (option_map group_view) (slice_get_read c.args.known.now _ place old refl
    c.in-Some.ensures.within c.index-known-place.is))
    (slice_get-get_or c.args.kept.now place 0 c.if-place-kept.false)
