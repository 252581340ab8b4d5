use Rattle.std.proofs.Common.{◌++◌, ◌∙◌, ap, map, subst, sym}
use Rattle.std.proofs.lemmas.List.{with_items_is}
use Rattle.block_shelf.specs.Each.{AreEach}
use Rattle.relay_live.proofs.Trials.{can_all, tried_each}
use Rattle.relay_live.specs.Trials.{IsTriedIn, untried}
use Rattle.relay_live.proofs.side_by_side.try_all.Goals as goal

-- none is tried yet, so that each may be
pub try_each-requires-clause-can : goal.try_each-requires-clause-can
try_each-requires-clause-can g c κs within =
    can_all c.args.stores.items c.as_mut_slice.result.now
    (c.as_mut_slice.ensures.value ∙ c.untried_all-slots.ensures
    ∙ ap (λ items. items ++ map untried c.args.stores.items) c.requires.none)
    c.requires.can

-- and then each is
pub returns : goal.returns
returns g c =
    subst (AreEach IsTriedIn c.args.stores.items)
    (sym (with_items_is c.untried_all-slots.result c.try_each.new.slots
    (c.try_each.ensures.count ∙ c.as_mut_slice.ensures.len)))
    (tried_each c.args.stores.items c.as_mut_slice.result.now c.try_each.new.slots
    (c.as_mut_slice.ensures.value ∙ c.untried_all-slots.ensures
    ∙ ap (λ items. items ++ map untried c.args.stores.items) c.requires.none)
    c.try_each.ensures.count c.try_each.ensures.tries)
