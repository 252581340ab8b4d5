use Rattle.relay_drill.specs.Script.{Rounds}
use Rattle.relay_drill.proofs.script.rounds.Goals as goal

pub returns : goal.returns
returns c = c.in_ok-count.ensures Rounds

pub returns-in_err-count : goal.returns-in_err-count
returns-in_err-count c = rw c.from_residual.ensures (c.in_err-count.ensures Rounds)
