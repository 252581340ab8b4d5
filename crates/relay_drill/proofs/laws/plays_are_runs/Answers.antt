use Rattle.relay_drill.proofs.Plays.{plays_run}
use Rattle.relay_drill.proofs.laws.plays_are_runs.Goals as goal

pub returns : goal.returns
returns c = λ config todo x events told y left one plays. plays_run plays one
