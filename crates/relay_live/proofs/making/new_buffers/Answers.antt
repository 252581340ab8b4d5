use Rattle.std.proofs.Common.{◌∙◌, ◌++◌, ◌∷◌, [], ap, append_assoc, arith, length, All}
use Rattle.std.proofs.Common.{length-append, subst, sym}
use Rattle.std.proofs.lemmas.List.Elements.{All-head, All-rest}
use Rattle.std.specs.Vec.Iter.{into_iter_items}
use Rattle.std.proofs.lemmas.List.{nil_from_length}
use Rattle.block_shelf.proofs.EachLemmas.{all_through, none_each, one_more_each}
use Rattle.block_shelf.specs.Each.{AreEach}
use Rattle.relay_live.proofs.Blamed.{blamed_at, memory_refuses}
use Rattle.std.proofs.lemmas.Result.{IfOk-from_err}
use Rattle.relay_live.proofs.Rooms.{next_fits, none_yet, one_came, room_of, still_fits}
use Rattle.relay_live.specs.Beginning.{IsNewOver}
use Rattle.relay_live.proofs.making.new_buffers.Goals as goal

pub loop-store-init : goal.loop-store-init
loop-store-init g c =
    let gives = c.into_iter-store-iterator.ensures.into_iter_gives in
    record {
      all = gives.0;
      over = subst (AreEach IsNewOver []) (sym c.in_ok-buffers.ensures.items)
          (none_each IsNewOver);
      count = none_yet _ _ _ (ap length c.in_ok-buffers.ensures.items)
          (gives.1 ∙ c.args.stores.ok.0);
      room = room_of _ _ _ c.in_ok-buffers.ensures.capacity (c.len.ensures ∙ c.args.stores.ok.0);
      honest = λ trusted. subst (All g.S.BlockStore.honest) (sym gives.0)
          (c.requires.honest trusted);
    }

-- there is room for one more, and its number fits
pub push_reserved-requires : goal.push_reserved-requires
push_reserved-requires g c =
    next_fits _ _ _ _ _ _ c.loop-store.buffers.ok.0 c.in-Some.ensures.steps.1
    c.loop-store.invariant.count c.loop-store.invariant.room

pub overflow_cast-number : goal.overflow_cast-number
overflow_cast-number g c =
    omega (
      arith,
      c.len-number.ensures,
      c.requires.few,
      c.loop-store.invariant.count,
      c.in-Some.ensures.steps.1,
      c.loop-store.buffers.ok,
    )

-- one buffer more
pub loop-store-preserved : goal.loop-store-preserved
loop-store-preserved g c =
    let here = c.len-number.ensures ∙ c.loop-store.buffers.ok.0
    ∙ c.loop-store.invariant.over.count in
    record {
      all = append_assoc c.loop-store.yielded (c.in-Some.store ∷ [])
          (into_iter_items c.next.new.self)
          ∙ ap (λ rest. c.loop-store.yielded ++ rest) (sym c.in-Some.ensures.steps.0)
          ∙ c.loop-store.invariant.all;
      over = subst (AreEach IsNewOver (c.loop-store.yielded ++ c.in-Some.store ∷ []))
          (sym c.push_reserved.ensures.items)
          (one_more_each IsNewOver c.loop-store.yielded c.loop-store.buffers.items c.in-Some.store
          c.in-Ok.buffer c.loop-store.invariant.over
          (subst (λ n. IsNewOver n c.in-Some.store c.in-Ok.buffer) here (record {
            agrees = c.in-Ok.ensures.new;
            blocks = c.in-Ok.ensures.blocks;
            calls = c.in-Ok.ensures.calls;
            failures = c.in-Ok.ensures.failures;
            free = c.in-Ok.ensures.free;
            unnumbered = c.in-Ok.ensures.numbers;
          })));
      count = one_came _ _ _ _ _
          (ap length c.push_reserved.ensures.items
          ∙ length-append c.loop-store.buffers.items (c.in-Ok.buffer ∷ []))
          c.in-Some.ensures.steps.1 c.loop-store.invariant.count;
      room = still_fits _ _ _ c.loop-store.invariant.room c.push_reserved.ensures.capacity;
      honest = λ trusted. All-rest g.S.BlockStore.honest c.in-Some.store
          (into_iter_items c.next.new.self) (into_iter_items c.loop-store.store-iterator)
          c.in-Some.ensures.steps.0 (c.loop-store.invariant.honest trusted);
    }

-- all stores were gone through
pub returns : goal.returns
returns g c =
    record {
      over = subst (λ stores. AreEach IsNewOver stores c.loop-store.buffers.items)
          (all_through c.loop-store.yielded c.loop-store.store-iterator.rest.items
          c.args.stores.items
          c.loop-store.invariant.all
          (nil_from_length c.loop-store.store-iterator.rest.items
          (sym c.loop-store.store-iterator.rest.ok.0 ∙ c.in-None.ensures.steps.0)))
          c.loop-store.invariant.over;
      refusal = tt;
    }

-- the store that is blamed stands behind those so far
pub returns-in-Err : goal.returns-in-Err
returns-in-Err g c =
    record {
      over = tt;
      refusal = blamed_at g.S.BlockStore c.loop-store.yielded c.in-Some.store
          (into_iter_items c.next.new.self) c.args.stores.items c.len-number.result
          c.unformatted.result
          (ap (λ rest. c.loop-store.yielded ++ rest) (sym c.in-Some.ensures.steps.0)
          ∙ c.loop-store.invariant.all)
          (c.len-number.ensures ∙ c.loop-store.buffers.ok.0
          ∙ c.loop-store.invariant.over.count)
          (c.unformatted.ensures c.in-Some.store c.in-Err.ensures.refusal);
    }

-- the next store is one of those
pub format-requires : goal.format-requires
format-requires g c trusted =
    All-head g.S.BlockStore.honest c.in-Some.store (into_iter_items c.next.new.self)
    (subst (All g.S.BlockStore.honest) c.in-Some.ensures.steps.0
    (c.loop-store.invariant.honest trusted))

pub returns-in_err-buffers : goal.returns-in_err-buffers
returns-in_err-buffers g c =
    record {
      over = IfOk-from_err c.from_residual.result _ c.from_residual.ensures.0;
      refusal = memory_refuses g.S.BlockStore c.args.stores.items c.from_residual.result
          c.from_residual.ensures.1;
    }
