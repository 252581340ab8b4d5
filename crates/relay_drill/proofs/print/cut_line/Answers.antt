use Rattle.std.proofs.Common.{arith, refl, ◌+◌, take, drop, zero-add}
use Rattle.std.proofs.lemmas.List.{take_rest}
use Rattle.stream_cut.proofs.PlaceLemmas.{line_found, line_missed}
use Rattle.relay_drill.proofs.Prints.{lines_of-first, lines_of-none}
use Rattle.relay_drill.proofs.print.cut_line.Goals as goal

pub returns-in-Some-clause-cut : goal.returns-in-Some-clause-cut
returns-in-Some-clause-cut c =
    let found = c.in-Some.ensures in
    let ends = line_found c.args.octets.now c.args.octets.now 0 c.in-Some.at
    (record { within = omega arith; none = λ k h e. absurd (omega (arith, h)) }) refl found.0
    found.1 in
    rw take_rest (lines_of-first c.args.octets.now (take c.in-Some.at c.args.octets.now)
    (drop (c.in-Some.at + 2) c.args.octets.now) (rw zero-add at ends.first))

pub returns-in-None-clause-cut : goal.returns-in-None-clause-cut
returns-in-None-clause-cut c =
    let ends = line_missed c.args.octets.now c.args.octets.now 0
    (record { within = omega arith; none = λ k h e. absurd (omega (arith, h)) }) refl
    c.in-None.ensures in
    lines_of-none c.args.octets.now c.requires ends
