use Rattle.std.proofs.Common.{◌∙◌, ◌+◌, ◌++◌, ◌∷◌, [], ap, subst, sym, take}
use Rattle.std.proofs.lemmas.List.{take_all, take_more}
use Rattle.block_shelf.proofs.EachLemmas.{none_each, one_more_each}
use Rattle.block_shelf.specs.Each.{AreEach}
use Rattle.block_shelf.specs.Stopping.{TellsPosition}
use Rattle.relay_live.proofs.Rooms.{still_fits}
use Rattle.relay_live.proofs.telling.positions_of.Goals as goal

pub loop-placed_group-init : goal.loop-placed_group-init
loop-placed_group-init c = record {
  count = c.in_ok-positions.ensures.len;
  room = c.in_ok-positions.ensures.capacity;
  told = subst (AreEach TellsPosition []) (sym c.in_ok-positions.ensures.items)
      (none_each TellsPosition);
}

-- one placed group more
pub loop-placed_group-preserved : goal.loop-placed_group-preserved
loop-placed_group-preserved c =
    let all = c.args.placed_groups.now in
    let k = c.loop-placed_group.placed_group-index in
    let one = c.placed_group-item.result in
    let within = c.loop-placed_group-test.true in
    record {
      count = c.push_reserved.ensures.len ∙ ap (λ n. n + 1) c.loop-placed_group.invariant.count;
      room = still_fits _ _ _ c.loop-placed_group.invariant.room c.push_reserved.ensures.capacity;
      told = subst (AreEach TellsPosition (take (k + 1) all)) (sym c.push_reserved.ensures.items)
          (subst
          (λ taken. AreEach TellsPosition taken
          (c.loop-placed_group.positions.items ++ c.position.result ∷ []))
          (sym (take_more all k one within
          ∙ ap (λ each. take k all ++ each ∷ []) (sym c.placed_group-item.is)))
          (one_more_each TellsPosition (take k all) c.loop-placed_group.positions.items one
          c.position.result
          c.loop-placed_group.invariant.told c.position.ensures));
    }

-- that was the last
pub returns : goal.returns
returns c =
    subst (λ taken. AreEach TellsPosition taken c.loop-placed_group.positions.items)
    (take_all c.loop-placed_group.placed_group-index c.args.placed_groups.now
    c.loop-placed_group-test.false)
    c.loop-placed_group.invariant.told
