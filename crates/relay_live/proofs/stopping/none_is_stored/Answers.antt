use Rattle.std.proofs.Common.{arith, length, rules, subst, sym, ◌<◌, ℕ}
use Rattle.post_history.specs.Shards.{shards_in}
use Rattle.relay_live.proofs.Remembering.{as_many_shards, shard_at}
use Rattle.relay_live.proofs.Rest.{rest_more, storing_found}
use Rattle.relay_live.proofs.stopping.none_is_stored.Goals as goal

pub loop-shard-init : goal.loop-shard-init
loop-shard-init g c = λ claims keeps id below. absurd (omega (arith, below))

pub loop-shard-preserved : goal.loop-shard-preserved
loop-shard-preserved g c =
    let all = c.args.shards.now in
    let within : c.loop-shard.shard-index < length all = search rules in
    rest_more (shards_in all) c.loop-shard.shard-index c.shard-item.result.shard c.counts.result
    (subst (λ (n : ℕ). c.loop-shard.shard-index < n) (sym (as_many_shards all)) within)
    (shard_at all c.loop-shard.shard-index c.shard-item.result c.shard-item.is)
    c.counts.ensures.claims (search rules) c.loop-shard.invariant

-- an id is being stored
pub returns-then-counts-gt0-clause-some : goal.returns-then-counts-gt0-clause-some
returns-then-counts-gt0-clause-some g c = λ e.
    let all = c.args.shards.now in
    let within : c.loop-shard.shard-index < length all = search rules in
    storing_found (shards_in all) c.loop-shard.shard-index c.shard-item.result.shard
    c.counts.result
    (subst (λ (n : ℕ). c.loop-shard.shard-index < n) (sym (as_many_shards all)) within)
    (shard_at all c.loop-shard.shard-index c.shard-item.result c.shard-item.is)
    c.counts.ensures.claims (λ zero. search rules)

pub returns-clause-none : goal.returns-clause-none
returns-clause-none g c = λ e claims keeps id below.
    c.loop-shard.invariant claims keeps id (omega (arith, below, c.loop-shard-test.false))
