use Rattle.relay_drill.specs.Script.{Expires}
use Rattle.relay_drill.proofs.script.expire.Goals as goal

pub returns : goal.returns
returns c = c.in_ok-shard.ensures Expires

pub returns-in_err-shard : goal.returns-in_err-shard
returns-in_err-shard c = rw c.from_residual.ensures (c.in_err-shard.ensures Expires)
