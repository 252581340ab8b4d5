use Rattle.std.proofs.Common.{◌∙◌, ◌++◌, ◌∷◌, [], ap, arith, get_or, length, sym}
use Rattle.std.proofs.lemmas.List.FromFn.{length-map-range_with_len, map-range_with_len_more}
use Rattle.relay_live.specs.Locked.{number_of}
use Rattle.relay_live.specs.Making as shareds
use Rattle.relay_live.specs.Rounds.{buffers_in, fronts_in, gone_over}
use Rattle.relay_live.proofs.Orders.{as_many, number_in_row, one_more}
use Rattle.relay_live.proofs.Rooms.{below_as, below_most, same_below}
use Rattle.relay_live.proofs.forgetting.go.Goals as goal

-- there are fewer fronts than buffers
pub read-requires-clause-few : goal.read-requires-clause-few
read-requires-clause-few g c =
    let rounds = c.loop-number.rounds in
    same_below _ _ _
    (as_many (buffers_in rounds) (length (fronts_in rounds)) c.loop-number.number
    c.loop-number.invariant.numbers rounds.as_many)
    (below_most _ _ _ 256 c.loop-number-test.true (sym c.len-number-end.ensures)
    c.args.shared.now.few)

-- and the buffer that is held is the next one
pub read-requires-clause-next : goal.read-requires-clause-next
read-requires-clause-next g c =
    let rounds = c.loop-number.rounds in
    c.hold.ensures
    ∙ sym (as_many (buffers_in rounds) (length (fronts_in rounds)) c.loop-number.number
    c.loop-number.invariant.numbers rounds.as_many)

pub loop-number-preserved : goal.loop-number-preserved
loop-number-preserved g c =
    let inv = c.loop-number.invariant in
    record {
      times = c.read.ensures.same_times ∙ inv.times;
      numbers = c.read.ensures.number
          ∙ (λ i. inv.numbers i ++ c.hold.ensures i ∷ [])
          ∙ sym (one_more c.loop-number.number);
      shards = c.read.ensures.same_shards ∙ inv.shards;
    }

-- the shard that is held is the next one
pub expire-requires-clause-next : goal.expire-requires-clause-next
expire-requires-clause-next g c =
    let shards = c.args.shared.now.shards.items in
    let place = c.loop-shard.shard-index in
    let one = c.shard-item.result in
    c.hold-in-loop-shard.ensures
    ∙ number_in_row number_of shards place one c.args.shared.now.shards_order
    (below_as _ _ _ c.loop-shard-test.true (ap length c.deref-shard-items.ensures.value))
    (c.shard-item.is ∙ ap (λ items. get_or items place one) c.deref-shard-items.ensures.value)
    ∙ sym (ap length c.loop-shard.invariant.shards
    ∙ length-map-range_with_len (gone_over (shareds.buffers_in c.args.shared.now)) 0 place)

-- of sixteen
pub expire-requires-clause-left : goal.expire-requires-clause-left
expire-requires-clause-left g c =
    same_below _ _ _
    (ap length c.loop-shard.invariant.shards
    ∙ length-map-range_with_len (gone_over (shareds.buffers_in c.args.shared.now)) 0
    c.loop-shard.shard-index)
    (below_as _ _ _ c.loop-shard-test.true
    (ap length c.deref-shard-items.ensures.value ∙ c.args.shared.now.sixteen))

-- and each is gone over with all fronts
pub loop-shard-preserved : goal.loop-shard-preserved
loop-shard-preserved g c =
    let inv = c.loop-shard.invariant in
    let rounds = c.loop-shard.rounds in
    let shards = c.args.shared.now.shards.items in
    let place = c.loop-shard.shard-index in
    let one = c.shard-item.result in
    let count = shareds.buffers_in c.args.shared.now in
    let number = c.hold-in-loop-shard.ensures
    ∙ number_in_row number_of shards place one c.args.shared.now.shards_order
    (below_as _ _ _ c.loop-shard-test.true (ap length c.deref-shard-items.ensures.value))
    (c.shard-item.is ∙ ap (λ items. get_or items place one) c.deref-shard-items.ensures.value) in
    let fronts = as_many (buffers_in rounds) (length (fronts_in rounds)) count inv.numbers
    rounds.as_many in
    record {
      times = c.expire.ensures.same_times ∙ inv.times;
      numbers = c.expire.ensures.same_buffers ∙ inv.numbers;
      shards = c.expire.ensures.one_more
          ∙ (λ i. inv.shards i ++ record { shard = number i; fronts = fronts i } ∷ [])
          ∙ sym (map-range_with_len_more (gone_over count) 0 place place (omega arith));
    }
