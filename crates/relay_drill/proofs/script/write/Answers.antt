use Rattle.relay_drill.specs.Script.{Writes}
use Rattle.relay_drill.proofs.script.write.Goals as goal

pub returns : goal.returns
returns c = c.in_ok-group.ensures Writes

pub returns-in_err-group : goal.returns-in_err-group
returns-in_err-group c = rw c.from_residual.ensures (c.in_err-group.ensures Writes)
