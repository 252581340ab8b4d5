use Rattle.relay_conf.proofs.Reaches.{of_others, further, from_everywhere}
use Rattle.relay_conf.proofs.laws.ranges_add_up.Goals as goal

pub returns-clause-others : goal.returns-clause-others
returns-clause-others c = of_others

pub returns-clause-further : goal.returns-clause-further
returns-clause-further c = further

pub returns-clause-none : goal.returns-clause-none
returns-clause-none c = from_everywhere
