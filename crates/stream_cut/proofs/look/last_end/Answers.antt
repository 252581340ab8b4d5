use Rattle.std.proofs.lemmas.List.{take_rest}
use Rattle.stream_cut.proofs.PlaceLemmas.{last_found, last_missed}
use Rattle.stream_cut.proofs.look.last_end.Goals as goal

pub returns-in-Some : goal.returns-in-Some
returns-in-Some c =
    last_found c.args.octets.now _ c.args.looked c.in-Some.k
    (take_rest c.args.octets.now c.args.looked) c.in-Some.ensures.0 c.in-Some.ensures.1

pub returns-in-None : goal.returns-in-None
returns-in-None c = last_missed c.args.octets.now _ c.args.looked c.requires
    (take_rest c.args.octets.now c.args.looked) c.in-None.ensures
