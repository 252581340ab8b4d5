use Rattle.repair_laws.proofs.Positions.{turn_positions}
use Rattle.repair_laws.proofs.laws.turns_are_positions.Goals as goal

pub returns : goal.returns
returns c = turn_positions
