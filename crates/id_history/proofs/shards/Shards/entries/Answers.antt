use Rattle.std.proofs.Common.{◌∙◌, ◌<◌, ◌+◌, ap, sym, subst, arith, length, map}
use Rattle.std.proofs.Math.ListN.{get_or}
use Rattle.std.proofs.lemmas.List.{take_at}
use Rattle.std.proofs.lemmas.List.Sorted.{length_permutation}
use Rattle.std.specs.List.{AllByRecursion}
use Rattle.id_history.specs.History.{IdFits}
use Rattle.id_history.specs.Views.{id_view}
use Rattle.id_history.specs.Lasting.{HasLasting}
use Rattle.id_history.proofs.JoinLemmas.{Joins-next, below}
use Rattle.id_history.proofs.LastingJoins.{HasLasting-none, HasLasting-all}
use Rattle.id_history.proofs.LastingJoins.{HasLasting-gathers}
use Rattle.id_history.proofs.LastingOrder.{all-sorted}
use Rattle.id_history.proofs.FitLemmas.{fits-sorted}
use Rattle.id_history.proofs.RoomOfAll.{room_more, lasting_all}
use Rattle.id_history.proofs.ShardsLemmas.{claims_in, Keeps-in}
use Rattle.id_history.proofs.shards.Shards.entries.Goals as goal

-- no shard, nothing left
pub loop-shard-init : goal.loop-shard-init
loop-shard-init c =
    let none = c.reserve.ensures.items ∙ c.new-entries.ensures.items in (
      λ claims keeps. subst (λ xs. HasLasting (map id_view xs) (below 0 claims)) (sym none)
          (HasLasting-none claims),
      c.reserve.new.list.ok.0 ∙ ap length none,
      omega (
        arith,
        c.in_ok-reserve.ensures.room,
        c.new-entries.ensures.capacity,
        c.new-entries.ensures.len,
        c.counts.ensures.lasting,
      ),
      subst (λ xs. AllByRecursion IdFits (map id_view xs)) (sym none) tt,
    )

-- the shard adds the ids of its own
pub loop-shard-preserved : goal.loop-shard-preserved
loop-shard-preserved c =
    let shards = c.args.self.now in
    let one = c.shard-item.result in
    let k = c.loop-shard.shard-index in
    let at = c.shard-item.is
    ∙ ap (λ items. get_or items k one) c.deref-shard-items.ensures.value in
    let there : k < length shards.shards.items = omega (
      arith,
      c.loop-shard-test.true,
      ap length c.deref-shard-items.ensures.value,
    ) in
    let room = room_more shards one k _ _ _ _ at there c.loop-shard.invariant.1
    c.loop-shard.invariant.2 c.in_ok-gather.ensures.len c.in_ok-gather.ensures.room in (
      λ claims keeps. HasLasting-gathers (below k claims) (claims_in one k claims)
          (below (k + 1) claims) (map id_view c.loop-shard.entries.items)
          (map id_view c.gather.new.list.items)
          (Joins-next shards one k claims at there)
          (c.loop-shard.invariant.0 claims keeps)
          (c.in_ok-gather.ensures.gathers (claims_in one k claims)
          (Keeps-in shards one k claims at keeps)),
      room.0,
      room.1,
      c.in_ok-gather.ensures.fits c.loop-shard.invariant.3,
    )

-- after the last shard these are all, in order
pub returns-clause-lasting : goal.returns-clause-lasting
returns-clause-lasting c = λ claims keeps.
    all-sorted c.deref_mut.result.now c.loop-shard.entries.items c.sort.new.entries _ claims
    c.deref_mut.ensures.value c.sort.ensures.same c.sort.ensures.rises
    (take_at c.sort.new.entries _ c.loop-shard.entries.len
    (length_permutation _ _ c.sort.ensures.same ∙ c.deref_mut.ensures.len))
    (HasLasting-all c.args.self.now claims (map id_view c.loop-shard.entries.items)
    c.loop-shard.shard-index
    (omega (arith, c.loop-shard-test.false, ap length c.deref-shard-items.ensures.value))
    (c.loop-shard.invariant.0 claims keeps))

-- each of them fits
pub returns-clause-fits : goal.returns-clause-fits
returns-clause-fits c =
    fits-sorted c.loop-shard.entries.items c.deref_mut.result.now c.sort.new.entries _
    c.deref_mut.ensures.value c.sort.ensures.same
    (take_at c.sort.new.entries _ c.loop-shard.entries.len
    (length_permutation _ _ c.sort.ensures.same ∙ c.deref_mut.ensures.len))
    c.loop-shard.invariant.3

-- and there is room for no more
pub returns-clause-room : goal.returns-clause-room
returns-clause-room c = omega (
  arith,
  c.loop-shard.invariant.1,
  c.loop-shard.invariant.2,
  lasting_all c.args.self.now c.loop-shard.shard-index
      (omega (arith, c.loop-shard-test.false, ap length c.deref-shard-items.ensures.value)),
)
