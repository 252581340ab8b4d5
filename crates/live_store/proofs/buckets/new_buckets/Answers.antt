use Rattle.std.proofs.Common.{◌∙◌, ◌+◌, ◌≤◌, ap, arith, subst, sym, [], ◌∷◌}
use Rattle.boxcar.specs.Table.{Tagged}
use Rattle.live_store.proofs.BucketLemmas.{tagged_more}
use Rattle.live_store.proofs.buckets.new_buckets.Goals as goal

pub loop-number-preserved : goal.loop-number-preserved
loop-number-preserved g c = record {
  tagged = subst (Tagged [] 0 (c.loop-number.number-counter + 1))
      (sym c.push_reserved.ensures.items)
      (tagged_more [] 0 c.loop-number.number-counter c.loop-number.buckets.items c.new.result
      (c.new.ensures ∙ c.of.ensures ∙ ap (λ n. n ∷ []) (omega arith))
      c.loop-number.invariant.tagged);
  room = subst (λ n. 864 ≤ n) (sym c.push_reserved.ensures.capacity) c.loop-number.invariant.room;
}
