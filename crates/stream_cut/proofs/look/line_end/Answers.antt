-- The search goes on where the look stopped.
use Rattle.std.proofs.lemmas.List.{take_rest}
use Rattle.stream_cut.proofs.PlaceLemmas.{line_found, line_missed}
use Rattle.stream_cut.proofs.look.line_end.Goals as goal

pub returns-in-Some : goal.returns-in-Some
returns-in-Some c =
    let found = c.in-Some.ensures in
    line_found c.args.octets.now _ c.args.looked c.in-Some.k c.requires
    (take_rest c.args.octets.now c.args.looked) found.0 found.1

pub returns-in-None : goal.returns-in-None
returns-in-None c = line_missed c.args.octets.now _ c.args.looked c.requires
    (take_rest c.args.octets.now c.args.looked) c.in-None.ensures
