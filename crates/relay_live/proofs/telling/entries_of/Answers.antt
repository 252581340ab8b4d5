use Rattle.std.proofs.Common.{◌≡◌, ◌∙◌, ◌<◌, ℕ, length, rules, subst, sym}
use Rattle.std.proofs.lemmas.List.{take_at}
use Rattle.std.proofs.lemmas.List.Sorted.{length_permutation}
use Rattle.post_history.specs.Shards.{shards_in}
use Rattle.relay_live.proofs.Remembering.{as_many_shards, shard_at}
use Rattle.relay_live.proofs.Entries.{all_left, left_more, none_left}
use Rattle.relay_live.proofs.telling.entries_of.Goals as goal

pub loop-shard-init : goal.loop-shard-init
loop-shard-init g c =
    none_left (shards_in c.args.shards.now) c.new-entries.result.items c.new-entries.ensures.items

-- the shard adds the ids of its own
pub loop-shard-preserved : goal.loop-shard-preserved
loop-shard-preserved g c =
    let all = c.args.shards.now in
    let k = c.loop-shard.shard-index in
    let within : k < length all = search rules in
    left_more (shards_in all) k c.shard-item.result.shard c.loop-shard.entries.items
    c.gather.new.list.items
    (subst (λ (n : ℕ). k < n) (sym (as_many_shards all)) within)
    (shard_at all k c.shard-item.result c.shard-item.is) c.in_ok-gather.ensures.gathers
    c.loop-shard.invariant

-- after the last shard these are all, in order
pub returns : goal.returns
returns g c =
    let past : c.loop-shard.shard-index ≡ 16 = search rules in
    all_left (shards_in c.args.shards.now) c.loop-shard.shard-index c.deref_mut.result.now
    c.loop-shard.entries.items c.sort.new.entries _ past c.deref_mut.ensures.value
    c.sort.ensures.same c.sort.ensures.rises
    (take_at c.sort.new.entries _ c.loop-shard.entries.len
    (length_permutation _ _ c.sort.ensures.same ∙ c.deref_mut.ensures.len))
    c.loop-shard.invariant
