use Rattle.relay_drill.proofs.Lives.{plays_lives}
use Rattle.relay_drill.proofs.laws.plays_are_lives.Goals as goal

pub returns : goal.returns
returns c = λ config todo x events told y left plays. plays_lives plays
