use Rattle.std.proofs.lemmas.List.{take_rest}
use Rattle.stream_cut.proofs.TextLemmas.{dots_found, dots_missed}
use Rattle.stream_cut.proofs.look.inner_dot.Goals as goal

pub returns-in-Some : goal.returns-in-Some
returns-in-Some c =
    dots_found c.args.octets.now _ c.args.looked c.in-Some.k c.requires
    (take_rest c.args.octets.now c.args.looked) c.in-Some.ensures.0 c.in-Some.ensures.1

pub returns-in-None : goal.returns-in-None
returns-in-None c = dots_missed c.args.octets.now _ c.args.looked c.requires
    (take_rest c.args.octets.now c.args.looked) c.in-None.ensures
