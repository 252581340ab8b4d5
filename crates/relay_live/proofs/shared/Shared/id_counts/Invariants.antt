use Rattle.std.proofs.Common.{◌*◌, ◌^◌}
use Rattle.id_history.specs.Counts.{AtMost}
use Rattle.relay_live.proofs.shared.Shared.id_counts.Given as goal

-- a shard counts at most 2 ^ 63 ids of each kind
abbrev pub invariant-loop-shard : goal.invariant-loop-shard
invariant-loop-shard g l = AtMost (l.shard-index * 2 ^ 63) l.all
