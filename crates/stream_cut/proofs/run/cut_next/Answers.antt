-- Each answer of the cutter as a step of a run.
use Rattle.stream_cut.proofs.RunLemmas.{step_line, step_block, step_end}
use Rattle.stream_cut.proofs.run.cut_next.Goals as goal

pub returns-in-Ok-Some : goal.returns-in-Ok-Some
returns-in-Ok-Some c =
    step_line c.args.cutter.now c.line.new.self c.args.want c.in-Ok-Some.field-0 c.in-Ok-Some.line
    c.in-Line.is c.in-Ok-Some.field-0-is c.in-Ok-Some.ensures.cut

pub returns-in-Err-LineTooLong : goal.returns-in-Err-LineTooLong
returns-in-Err-LineTooLong c =
    step_end c.args.cutter.now c.line.new.self c.args.want c.in-Err-LineTooLong.field-0 c.in-Line.is
    c.in-Err-LineTooLong.field-0-is c.requires.sound c.in-Err-LineTooLong.ensures.cut

pub returns-in-Ok-Some-block : goal.returns-in-Ok-Some-block
returns-in-Ok-Some-block c =
    step_block c.args.cutter.now c.block.new.self c.args.want c.in-Ok-Some-block.field-0
    c.in-Ok-Some-block.block c.in-Block.is c.in-Ok-Some-block.field-0-is
    c.in-Ok-Some-block.ensures.cut
