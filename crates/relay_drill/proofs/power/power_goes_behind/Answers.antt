use Rattle.relay_drill.proofs.Powers.{goes_behind}
use Rattle.relay_drill.proofs.power.power_goes_behind.Goals as goal

pub returns : goal.returns
returns c = goes_behind
