use Rattle.relay_drill.proofs.OneLife.{lines_one}
use Rattle.relay_drill.proofs.laws.crashes_are_lines.Goals as goal

pub returns : goal.returns
returns c = λ groups lines stand none. lines_one groups lines stand none
