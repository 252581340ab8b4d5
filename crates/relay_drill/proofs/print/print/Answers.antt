use Rattle.std.proofs.Common.{codes}
use Rattle.relay_drill.specs.Print.{session_line, session_lines}
use Rattle.relay_report.proofs.Writes.{front_before, writes_behind, writes_failed}
use Rattle.relay_drill.proofs.print.print.Goals as goal

pub returns-in_err-print_lines-in-Ended : goal.returns-in_err-print_lines-in-Ended
returns-in_err-print_lines-in-Ended g c =
    let closed = session_line c.in-Ended.session (codes "closed") in
    rw c.in-Ended.is (writes_failed c.from_residual.result _ _ _ c.from_residual.ensures.0
    (front_before _ _ (session_lines c.in-Ended.session c.in-Ended.octets) closed
    (rw c.as_slice-in-Ended.ensures at c.in_err-print_lines-in-Ended.ensures)))

pub returns-in_ok-print_lines-in-Ended : goal.returns-in_ok-print_lines-in-Ended
returns-in_ok-print_lines-in-Ended g c =
    rw c.in-Ended.is (writes_behind c.print_line.result
    (session_lines c.in-Ended.session c.in-Ended.octets) _ _ _ _
    (rw c.as_slice-in-Ended.ensures at c.in_ok-print_lines-in-Ended.ensures) c.print_line.ensures)
