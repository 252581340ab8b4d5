use Rattle.std.proofs.Common.{refl}
use Rattle.relay_command.specs.Run.{of_file, of_input, of_none}
use Rattle.relay_command.proofs.Checks.{keeps_same}
use Rattle.relay_command.proofs.Scripts.{is_file, is_input}
use Rattle.relay_command.proofs.program.drill_script.Goals as goal

pub returns-then-is_standard_input : goal.returns-then-is_standard_input
returns-then-is_standard_input g c =
    of_input
    (is_input c.args.script.now c.is_standard_input.result c.is_standard_input.ensures
    c.if-is_standard_input.true)
    c.drill.ensures

pub returns-in-Ok : goal.returns-in-Ok
returns-in-Ok g c =
    of_file
    (is_file c.args.script.now c.is_standard_input.result c.is_standard_input.ensures
    c.if-is_standard_input.false)
    c.as_slice.result.now c.drill-in-Ok.ensures

pub returns-in-Err : goal.returns-in-Err
returns-in-Err g c =
    of_none
    (is_file c.args.script.now c.is_standard_input.result c.is_standard_input.ensures
    c.if-is_standard_input.false)
    c.in-Err.error c.in-Err.ensures refl (keeps_same (g.W.Write.contents c.args.writer.now))
