use Rattle.std.proofs.Common.{◌+◌, ◌*◌, ◌^◌, ◌∙◌, ap, arith, length}
use Rattle.std.proofs.Math.ListN.{get_or}
use Rattle.id_history.proofs.JoinLemmas.{AtMost-weaker, AtMost-plus, Joins-next, CountsOf-join}
use Rattle.id_history.proofs.JoinLemmas.{CountsOf-none, Sums, below, below_all}
use Rattle.id_history.proofs.ShardsLemmas.{claims_in, Keeps-in}
use Rattle.id_history.proofs.RoomOfAll.{lasting_more, lasting_all}
use Rattle.id_history.proofs.shards.Shards.counts.Goals as goal

-- no shard, nothing counted
pub loop-shard-init : goal.loop-shard-init
loop-shard-init c = (
  λ claims keeps. CountsOf-none claims c.none-counts.result c.none-counts.ensures,
  record {
    offered = omega (arith, c.none-counts.ensures.offered);
    storing = omega (arith, c.none-counts.ensures.storing);
    stored = omega (arith, c.none-counts.ensures.stored);
    refused = omega (arith, c.none-counts.ensures.refused);
  },
  omega (arith, c.none-counts.ensures.stored, c.none-counts.ensures.refused),
)

-- sixteen times 2 ^ 63 is far from 2 ^ 128
pub plus-counts-requires-clause-here : goal.plus-counts-requires-clause-here
plus-counts-requires-clause-here c =
    AtMost-weaker _ _ _ (omega (
      arith,
      c.loop-shard-test.true,
      ap length c.deref-shard-items.ensures.value,
      c.args.self.now.sixteen,
    )) c.loop-shard.invariant.1

pub plus-counts-requires-clause-there : goal.plus-counts-requires-clause-there
plus-counts-requires-clause-there c = AtMost-weaker _ _ _ (omega arith) c.counts.ensures.few

-- the shard adds the ids of its own
pub loop-shard-preserved : goal.loop-shard-preserved
loop-shard-preserved c =
    let shards = c.args.self.now in
    let at = c.shard-item.is ∙ ap (λ items. get_or items c.loop-shard.shard-index
    c.shard-item.result) c.deref-shard-items.ensures.value in
    let sums : Sums c.loop-shard.counts c.counts.result c.plus-counts.result = record {
      offered = c.plus-counts.ensures.offered;
      storing = c.plus-counts.ensures.storing;
      stored = c.plus-counts.ensures.stored;
      refused = c.plus-counts.ensures.refused;
    } in (
      λ claims keeps. CountsOf-join (below c.loop-shard.shard-index claims)
          (claims_in c.shard-item.result c.loop-shard.shard-index claims)
          (below (c.loop-shard.shard-index + 1) claims) c.loop-shard.counts c.counts.result
          c.plus-counts.result
          (Joins-next shards c.shard-item.result c.loop-shard.shard-index claims at (omega (
            arith,
            c.loop-shard-test.true,
            ap length c.deref-shard-items.ensures.value,
          )))
          sums (c.loop-shard.invariant.0 claims keeps)
          (c.counts.ensures.claims (claims_in c.shard-item.result c.loop-shard.shard-index claims)
          (Keeps-in shards c.shard-item.result c.loop-shard.shard-index claims at keeps)),
      AtMost-plus (c.loop-shard.shard-index * 2 ^ 63) (2 ^ 63) _
          c.loop-shard.counts c.counts.result c.plus-counts.result (omega arith) sums
          c.loop-shard.invariant.1 c.counts.ensures.few,
      lasting_more shards c.shard-item.result c.loop-shard.shard-index c.loop-shard.counts
          c.counts.result c.plus-counts.result at
          (omega (arith, c.loop-shard-test.true, ap length c.deref-shard-items.ensures.value))
          sums c.loop-shard.invariant.2 c.counts.ensures.lasting,
    )

-- after the last shard these are all ids
pub returns-clause-claims : goal.returns-clause-claims
returns-clause-claims c = λ claims keeps.
    below_all c.args.self.now claims c.loop-shard.counts c.loop-shard.shard-index
    (omega (arith, c.loop-shard-test.false, ap length c.deref-shard-items.ensures.value))
    (c.loop-shard.invariant.0 claims keeps)

-- and all that are left
pub returns-clause-lasting : goal.returns-clause-lasting
returns-clause-lasting c =
    c.loop-shard.invariant.2
    ∙ lasting_all c.args.self.now c.loop-shard.shard-index
    (omega (arith, c.loop-shard-test.false, ap length c.deref-shard-items.ensures.value))
