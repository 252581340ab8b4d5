use Rattle.std.proofs.Common.{◌==◌, ap, sym}
use Rattle.line_words.proofs.Cuts.{some_part}
use Rattle.relay_drill.specs.Fault.{line_view}
use Rattle.relay_drill.specs.Script.{line_alone}
use Rattle.relay_drill.proofs.script.alone.Goals as goal

pub returns-in-Some : goal.returns-in-Some
returns-in-Some c =
    let parts = some_part (λ other. other == 32) c.in-Some.field-0.now in
    rw c.in-Some.is (sym (ap (line_alone (line_view c.args.line)) parts.2))
