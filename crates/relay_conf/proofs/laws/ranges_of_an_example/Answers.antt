use Rattle.relay_conf.proofs.Reaches.{example_says}
use Rattle.relay_conf.proofs.laws.ranges_of_an_example.Goals as goal

pub returns : goal.returns
returns c = example_says
