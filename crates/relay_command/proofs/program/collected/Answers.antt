use Rattle.std.proofs.Common.{refl, Ok}
use Rattle.std.proofs.lemmas.Iterator.{items_from_collect}
use Rattle.std.proofs.lemmas.Iterator.Adapters.{YieldsList-from_vec}
use Rattle.std.specs.Vec.Iter.{into_iter_items}
use Rattle.relay_command.proofs.program.collected.Goals as goal

pub returns-in-Ok-clause-words : goal.returns-in-Ok-clause-words
returns-in-Ok-clause-words c =
    items_from_collect {E = Unit {0}} (Ok c.in-Ok.words) c.in-Ok.ensures.ran
    (YieldsList-from_vec (into_iter_items c.args.words) refl c.args.words.rest.ok.0)
