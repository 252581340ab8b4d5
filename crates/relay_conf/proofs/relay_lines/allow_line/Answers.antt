use Rattle.std.proofs.Common.{◌≡◌, ◌∙◌, Some, sym}
use Rattle.relay_conf.specs.RelayLines.{allow_line, allow_ranged, ranges_of}
use Rattle.relay_conf.specs.Words.{words}
use Rattle.relay_conf.proofs.Ranges.{allow_said, allow_with_fault, allow_without_fault}
use Rattle.relay_conf.proofs.relay_lines.allow_line.Goals.{In-Some-name_of}
use Rattle.relay_conf.proofs.relay_lines.allow_line.Goals as goal

-- Where the name is one, the line says its ranges, or their fault.
said : (c : In-Some-name_of)
    → allow_ranged c.in-Some-name_of.name.now (ranges_of (words c.in-Some.ranges.now))
    ≡ allow_line (words c.args.rest.now)
said c =
    allow_said (words c.args.rest.now) c.in-Some.name.now (words c.in-Some.ranges.now)
    (Some c.in-Some-name_of.name.now) _ _ c.in-Some.ensures c.in-Some-first_word.ensures
    c.in-Some-name_of.ensures

pub returns-in-Some-range_fault : goal.returns-in-Some-range_fault
returns-in-Some-range_fault c =
    sym (allow_with_fault c.in-Some-name_of.name.now (ranges_of (words c.in-Some.ranges.now))
    c.in-Some-range_fault.fault (sym c.in-Some-range_fault.ensures))
    ∙ said (goal.at.returns-in-Some-range_fault c).In-Some-name_of

pub returns-in-None : goal.returns-in-None
returns-in-None c =
    sym (allow_without_fault c.in-Some-name_of.name.now (words c.in-Some.ranges.now)
    (sym c.in-None.ensures))
    ∙ said (goal.at.returns-in-None c).In-Some-name_of
