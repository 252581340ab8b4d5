use Rattle.std.proofs.Common.{◌++◌, option_map}
use Rattle.article_verdict.specs.Verdict.{reason_view}
use Rattle.relay_drill.proofs.Prints.{front_of_lines, one_more_line}
use Rattle.relay_drill.specs.Print.{note_of, session_line}
use Rattle.relay_report.proofs.Writes.{appends_both, writes_failed}
use Rattle.relay_drill.proofs.print.print_noted.Goals as goal

pub loop-rest-preserved : goal.loop-rest-preserved
loop-rest-preserved g c =
    let so_far = c.loop-rest.invariant in
    let note = note_of (option_map reason_view c.args.why) in
    let one = session_line c.args.session (c.cut_line.result.0.now ++ note) in (
      so_far.0 ++ one,
      appends_both _ _ _ so_far.0 one so_far.1 c.in_ok-print_line.ensures,
      one_more_line c.args.session c.args.octets.now note so_far.0 c.loop-rest.rest.now
          c.cut_line.result.0.now c.cut_line.result.1.now so_far.2 c.cut_line.ensures.cut,
    )

pub returns-in_err-print_line : goal.returns-in_err-print_line
returns-in_err-print_line g c =
    let so_far = c.loop-rest.invariant in
    let note = note_of (option_map reason_view c.args.why) in
    writes_failed c.from_residual.result _ _ _ c.from_residual.ensures.0
    (front_of_lines c.args.session c.args.octets.now note so_far.0 c.loop-rest.rest.now
    c.cut_line.result.0.now c.cut_line.result.1.now _ _ _ so_far.2 c.cut_line.ensures.cut so_far.1
    c.in_err-print_line.ensures)
