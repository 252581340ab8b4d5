use Rattle.std.proofs.lemmas.Result.{err_from_is_err_and}
use Rattle.uwild.specs.Expression.{verdict_view}
use Rattle.uwild.specs.Reads.{HasFaultBehindItems, HasFaultInPattern}
use Rattle.uwild.proofs.SetFaults.{fault_map}
use Rattle.uwild.proofs.Readings.{pattern_fault}
use Rattle.uwild.proofs.pattern.read_pattern.Goals as goal

pub returns-in_err-cut : goal.returns-in_err-cut
returns-in_err-cut c =
    let mark = verdict_view c.read_mark-mark.result.0 in
    let rest = c.read_mark-mark.result.1.now in
    let p = err_from_is_err_and c.from_residual.result c.from_residual.ensures.1 in
    rw (p.1, p.2)
    (fault_map (HasFaultBehindItems rest) (HasFaultInPattern c.args.text.now)
    (pattern_fault c.args.text.now mark rest c.read_mark-mark.ensures)
    c.in_err-cut.field-0.0 c.in_err-cut.ensures)
