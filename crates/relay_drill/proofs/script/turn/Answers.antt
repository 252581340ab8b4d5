use Rattle.relay_drill.specs.Script.{Turns}
use Rattle.relay_drill.proofs.script.turn.Goals as goal

pub returns : goal.returns
returns c = c.in_ok-session.ensures Turns

pub returns-in_err-session : goal.returns-in_err-session
returns-in_err-session c = rw c.from_residual.ensures (c.in_err-session.ensures Turns)
