use Rattle.post_history.specs.Shards.{shards_in}
use Rattle.relay_live.proofs.Rest.{IsRestTo}
use Rattle.relay_live.proofs.stopping.none_is_stored.Given as goal

-- of the ids of the shards so far none is being stored
abbrev pub invariant-loop-shard : goal.invariant-loop-shard
invariant-loop-shard g l = IsRestTo (shards_in l.shards) l.shard-index
