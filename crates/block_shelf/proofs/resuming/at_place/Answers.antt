use Rattle.block_shelf.proofs.Shelving.{none_there, number_there}
use Rattle.block_shelf.proofs.resuming.at_place.Goals as goal

pub returns-in-Some : goal.returns-in-Some
returns-in-Some c = number_there c.args.list.now c.args.place c.in-Some.ensures.lookup

pub returns-in-None : goal.returns-in-None
returns-in-None c = none_there c.args.list.now c.args.place c.in-None.ensures.lookup.0
