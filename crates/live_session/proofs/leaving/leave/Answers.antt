use Rattle.std.proofs.Common.{◌∙◌, sym}
use Rattle.live_session.proofs.Rounds.{leaving_on}
use Rattle.live_session.proofs.leaving.leave.Goals as goal

pub loop-preserved : goal.loop-preserved
loop-preserved g c = leaving_on c.loop.invariant c.last_turn.ensures

-- it is closed once it runs no more
pub returns-then-not-is_running : goal.returns-then-not-is_running
returns-then-not-is_running g c = record {
  turned = c.loop.invariant;
  closed = sym c.is_running.ensures ∙ c.if-not-is_running.true;
}
