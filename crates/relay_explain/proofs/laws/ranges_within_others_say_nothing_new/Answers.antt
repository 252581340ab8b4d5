use Rattle.relay_explain.proofs.Reaches.{nothing_new}
use Rattle.relay_explain.proofs.laws.ranges_within_others_say_nothing_new.Goals as goal

pub returns : goal.returns
returns c = nothing_new
