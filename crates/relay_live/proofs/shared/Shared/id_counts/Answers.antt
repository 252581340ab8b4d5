use Rattle.std.proofs.Common.{◌≡◌, ◌∙◌, ◌<◌, ◌≤◌, ◌+◌, ◌*◌, ◌^◌, ℕ, ap, arith}
use Rattle.std.proofs.Common.{length, subst, sym}
use Rattle.id_history.specs.Counts.{AtMost}
use Rattle.id_history.proofs.JoinLemmas.{AtMost-weaker}
use Rattle.relay_live.proofs.shared.Shared.id_counts.Goals as goal

so_many : (index count : ℕ) → index < count → count ≡ 16 → index * 2 ^ 63 ≤ 2 ^ 100
so_many index count within all = omega arith

one_more : (index old more : ℕ) → old ≤ index * 2 ^ 63 → more ≤ 2 ^ 63
    → old + more ≤ (index + 1) * 2 ^ 63
one_more index old more most add = omega arith

-- sixteen times 2 ^ 63 is far from 2 ^ 100
pub sum-all-requires-clause-one : goal.sum-all-requires-clause-one
sum-all-requires-clause-one g c =
    AtMost-weaker _ _ _
    (so_many _ _ c.loop-shard-test.true
    (ap length c.deref-shard-items.ensures.value ∙ c.args.self.now.sixteen))
    c.loop-shard.invariant

pub loop-shard-preserved : goal.loop-shard-preserved
loop-shard-preserved g c =
    let old = c.loop-shard.invariant in
    let more = c.counts.ensures.few in
    subst (AtMost ((c.loop-shard.shard-index + 1) * 2 ^ 63)) (sym c.sum-all.ensures) (record {
      offered = one_more _ _ _ old.offered more.offered;
      storing = one_more _ _ _ old.storing more.storing;
      stored = one_more _ _ _ old.stored more.stored;
      refused = one_more _ _ _ old.refused more.refused;
    })
