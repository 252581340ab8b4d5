use Rattle.std.proofs.Common.{◌≡◌, ◌∷◌}
use Rattle.line_words.specs.Parts.{parts}
use Rattle.relay_conf.proofs.Ranges.{range_of_many}
use Rattle.relay_conf.proofs.reach.range_of.Goals as goal

pub returns-in-None : goal.returns-in-None
returns-in-None c =
    let cut : parts 47 c.args.word.now ≡ c.cut.result.0.now ∷ parts 47 c.in-Some.rest.now =
    rw c.in-Some.is at c.cut.ensures in
    range_of_many c.args.word.now c.cut.result.0.now c.in-Some.rest.now cut c.in-None.ensures
