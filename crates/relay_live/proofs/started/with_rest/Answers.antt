use Rattle.std.proofs.Common.{◌++◌, ◌∙◌, ◌∷◌, [], ap, append-nil, append_assoc, length}
use Rattle.std.proofs.Common.{refl, sym}
use Rattle.std.proofs.lemmas.List.{length-append, nil_from_length}
use Rattle.block_shelf.proofs.EachLemmas.{all_through, count_through, one_through}
use Rattle.relay_live.proofs.Trials.{store_fits, stores_fit, stores_more}
use Rattle.relay_live.specs.Trials.{stores_in}
use Rattle.relay_live.proofs.started.with_rest.Goals as goal

pub loop-slot-init : goal.loop-slot-init
loop-slot-init g c = record {
  all = ap (λ it. it.rest.items) c.into_iter-slot-iterator.ensures.into_iter_gives;
  items = sym (append-nil c.args.stores.items);
  capacity = refl;
}

pub put_store-stores-requires : goal.put_store-stores-requires
put_store-stores-requires g c =
    store_fits _ _ _ _ _ _ _ _ _
    (c.loop-slot.stores.ok.0 ∙ ap length c.loop-slot.invariant.items
    ∙ length-append c.args.stores.items (stores_in c.loop-slot.yielded))
    c.args.stores.ok.0
    (stores_fit c.loop-slot.yielded)
    (count_through c.loop-slot.yielded c.loop-slot.slot-iterator.rest.items
    c.args.left.rest.items c.in-Some.slot c.next.new.self.rest.items
    c.loop-slot.invariant.all c.in-Some.ensures.steps.0)
    c.requires c.loop-slot.invariant.capacity

pub loop-slot-preserved : goal.loop-slot-preserved
loop-slot-preserved g c = record {
  all = one_through c.loop-slot.yielded c.loop-slot.slot-iterator.rest.items
      c.args.left.rest.items c.in-Some.slot c.next.new.self.rest.items
      c.loop-slot.invariant.all c.in-Some.ensures.steps.0;
  items = c.put_store-stores.ensures.items
      ∙ ap (λ items. items ++ stores_in (c.in-Some.slot ∷ [])) c.loop-slot.invariant.items
      ∙ append_assoc c.args.stores.items (stores_in c.loop-slot.yielded)
      (stores_in (c.in-Some.slot ∷ []))
      ∙ ap (λ items. c.args.stores.items ++ items)
      (sym (stores_more c.loop-slot.yielded c.in-Some.slot));
  capacity = c.put_store-stores.ensures.capacity ∙ c.loop-slot.invariant.capacity;
}

pub returns : goal.returns
returns g c =
    c.loop-slot.invariant.items
    ∙ ap (λ through. c.args.stores.items ++ stores_in through)
    (all_through c.loop-slot.yielded c.loop-slot.slot-iterator.rest.items
    c.args.left.rest.items c.loop-slot.invariant.all
    (nil_from_length c.loop-slot.slot-iterator.rest.items
    (sym c.loop-slot.slot-iterator.rest.ok.0 ∙ c.in-None.ensures.steps.0)))
