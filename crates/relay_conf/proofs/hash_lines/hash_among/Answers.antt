use Rattle.std.proofs.Common.{◌≡◌, ◌∷◌}
use Rattle.line_words.specs.Parts.{parts}
use Rattle.relay_conf.proofs.HashParts.{among_many}
use Rattle.relay_conf.proofs.hash_lines.hash_among.Goals as goal

pub returns-in-None : goal.returns-in-None
returns-in-None c =
    let cut : parts 45 c.args.ends.now ≡ c.cut.result.0.now ∷ parts 45 c.in-Some.rest.now =
    rw c.in-Some.is at c.cut.ensures in
    among_many c.args.ends.now c.args.of.now c.cut.result.0.now c.in-Some.rest.now cut
    c.in-None.ensures
