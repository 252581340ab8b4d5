use Rattle.post_history.specs.Shards.{shards_in}
use Rattle.relay_live.proofs.Entries.{AreLeftTo}
use Rattle.relay_live.proofs.telling.entries_of.Given as goal

-- what is left of the shards so far was gathered
abbrev pub invariant-loop-shard : goal.invariant-loop-shard
invariant-loop-shard g l = AreLeftTo (shards_in l.shards) l.shard-index l.entries.items
