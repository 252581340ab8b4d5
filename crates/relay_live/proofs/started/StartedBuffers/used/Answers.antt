use Rattle.std.proofs.Common.{◌∙◌, ◌+◌, ◌++◌, ◌∷◌, [], ap, get_or, length, map}
use Rattle.std.proofs.Common.{subst, sym, take}
use Rattle.std.proofs.lemmas.List.{map_push, take_all, take_more}
use Rattle.cyc_buffer.specs.Agreement.{Agrees}
use Rattle.cyc_buffer.specs.Head.{inside}
use Rattle.block_shelf.proofs.EachLemmas.{none_each, one_more_each}
use Rattle.block_shelf.specs.Resuming.{AreUsed, IsUsed}
use Rattle.block_shelf.specs.Starting.{buffers_inside}
use Rattle.live_store.specs.Started.{unopened_in}
use Rattle.relay_live.proofs.Rooms.{below_as, no_more, room_of, still_fits}
use Rattle.relay_live.proofs.started.StartedBuffers.used.Goals as goal

pub loop-unopened-init : goal.loop-unopened-init
loop-unopened-init g c = record {
  count = c.in_ok-used.ensures.len;
  room = room_of _ _ _ c.in_ok-used.ensures.capacity
      (c.len.ensures ∙ c.args.self.now.buffers.ok.0);
  are = subst (AreUsed []) (sym c.in_ok-used.ensures.items) (none_each IsUsed);
}

-- one buffer more
pub loop-unopened-preserved : goal.loop-unopened-preserved
loop-unopened-preserved g c =
    let all = c.args.self.now.buffers.items in
    let k = c.loop-unopened.unopened-index in
    let one = c.unopened-item.result in
    let within = below_as _ _ _ c.loop-unopened-test.true
    (ap length c.deref-unopened-items.ensures.value) in
    let here = c.unopened-item.is
    ∙ ap (λ items. get_or items k one) c.deref-unopened-items.ensures.value in
    record {
      count = c.push_reserved.ensures.len ∙ ap (λ n. n + 1) c.loop-unopened.invariant.count;
      room = still_fits _ _ _ c.loop-unopened.invariant.room c.push_reserved.ensures.capacity;
      are = subst (AreUsed (buffers_inside (map unopened_in (take (k + 1) all))))
          (sym c.push_reserved.ensures.items)
          (subst (λ codes. AreUsed codes (c.loop-unopened.used.items ++ c.used_in.result ∷ []))
          (sym (ap (λ us. buffers_inside (map unopened_in us)) (take_more all k one within
          ∙ ap (λ each. take k all ++ each ∷ []) (sym here))
          ∙ ap (map inside) (map_push unopened_in (take k all) one)
          ∙ map_push inside (map unopened_in (take k all)) (unopened_in one)))
          (one_more_each IsUsed (buffers_inside (map unopened_in (take k all)))
          c.loop-unopened.used.items (inside (unopened_in one)) c.used_in.result
          c.loop-unopened.invariant.are
          (λ trusted h agrees. c.used_in.ensures trusted h
          (subst (λ code. Agrees trusted code h) (sym c.buffer.ensures) agrees))));
    }

-- that was the last
pub returns : goal.returns
returns g c =
    subst (λ taken. AreUsed (buffers_inside (map unopened_in taken)) c.loop-unopened.used.items)
    (take_all c.loop-unopened.unopened-index c.args.self.now.buffers.items
    (no_more _ _ _ (sym (ap length c.deref-unopened-items.ensures.value))
    c.loop-unopened-test.false))
    c.loop-unopened.invariant.are
