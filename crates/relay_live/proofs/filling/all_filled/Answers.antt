use Rattle.std.proofs.Common.{◌≡◌, ◌∙◌, ◌<◌, ◌≤◌, ◌+◌, ◌++◌, ◌∷◌, [], ℕ, ap, arith, get_or}
use Rattle.std.proofs.Common.{length, map, subst, sym, take}
use Rattle.std.proofs.lemmas.List.{map_push, take_all, take_more}
use Rattle.block_shelf.specs.Filled.{filled_in}
use Rattle.cyc_buffer.specs.Filled.{filled_by, filled_view}
use Rattle.cyc_buffer.specs.Head.{said_of}
use Rattle.live_store.specs.Started.{unopened_in}
use Rattle.news_terms.specs.HeadBlocks.{Closed}
use Rattle.relay_live.proofs.Rooms.{still_fits}
use Rattle.relay_live.proofs.filling.all_filled.Goals as goal

-- one buffer more
pub loop-unopened-preserved : goal.loop-unopened-preserved
loop-unopened-preserved g c =
    let all = c.args.started.now.buffers.items in
    let k = c.loop-unopened.unopened-index in
    let one = c.unopened-item.result in
    let items = c.deref-unopened-items.ensures.value in
    let within : k < length all =
    subst (λ (n : ℕ). k < n) (ap length items) c.loop-unopened-test.true in
    let is : one ≡ get_or all k one = c.unopened-item.is ∙ ap (λ xs. get_or xs k one) items in
    record {
      count = c.push_reserved.ensures.len ∙ ap (λ n. n + 1) c.loop-unopened.invariant.count;
      room = still_fits _ _ _ c.loop-unopened.invariant.room c.push_reserved.ensures.capacity;
      said =
          ap (map filled_view) c.push_reserved.ensures.items
          ∙ map_push filled_view c.loop-unopened.filled.items c.filled.result
          ∙ ap (λ xs. xs ++ filled_view c.filled.result ∷ []) c.loop-unopened.invariant.said
          ∙ ap (λ y. map filled_in (map unopened_in (take k all)) ++ y ∷ [])
          (c.filled.ensures.said 0
          ∙ ap (λ buffer. filled_by (said_of Closed 0 buffer)) c.buffer.ensures)
          ∙ sym (ap (λ xs. map filled_in (map unopened_in xs))
          (take_more all k one within ∙ ap (λ x. take k all ++ x ∷ []) (sym is))
          ∙ ap (map filled_in) (map_push unopened_in (take k all) one)
          ∙ map_push filled_in (map unopened_in (take k all)) (unopened_in one));
    }

-- that was the last
pub returns : goal.returns
returns g c =
    let all = c.args.started.now.buffers.items in
    let past : length all ≤ c.loop-unopened.unopened-index =
    omega (arith, c.loop-unopened-test.false, ap length c.deref-unopened-items.ensures.value) in
    c.loop-unopened.invariant.said
    ∙ ap (λ xs. map filled_in (map unopened_in xs))
    (take_all c.loop-unopened.unopened-index all past)
