use Rattle.std.proofs.Common.{Some, None, ap, ◌∙◌, sym}
use Rattle.line_words.specs.Parts.{parts_after}
use Rattle.std.specs.Prelude.{◌&&◌}
use Rattle.relay_conf.specs.Cycbuff.{is_file}
use Rattle.relay_conf.proofs.FileLines.{buffer_parted, buffer_by_three, buffer_refused, buffer_said}
use Rattle.relay_conf.proofs.cycbuff_lines.buffer_line.Goals.{then-not-is_name-via-then-not-is_name}
use Rattle.relay_conf.proofs.cycbuff_lines.buffer_line.Goals.{
  then-not-is_name-via-else-not-is_name+then-not-is_file,
}
use Rattle.relay_conf.proofs.cycbuff_lines.buffer_line.Goals as goal

pub returns-in_default : goal.returns-in_default
returns-in_default c =
    ap buffer_parted c.in_default.ensures ∙ sym (buffer_by_three (parts_after 58 c.args.rest))

pub returns-in-Some-number_within : goal.returns-in-Some-number_within
returns-in-Some-number_within c =
    buffer_said (parts_after 58 c.args.rest) c.in-Some.name.now c.in-Some.file.now
    c.in-Some.size.now (Some c.in-Some-number_within.kilobytes) c.in-Some.ensures
    c.if-not-is_name.ensures c.if-not-is_file.ensures c.in-Some-number_within.ensures.number

pub returns-in-None : goal.returns-in-None
returns-in-None c =
    buffer_said (parts_after 58 c.args.rest) c.in-Some.name.now c.in-Some.file.now
    c.in-Some.size.now None c.in-Some.ensures c.if-not-is_name.ensures c.if-not-is_file.ensures
    c.in-None.ensures.number

pub returns-then-not-is_name : goal.returns-then-not-is_name
returns-then-not-is_name c =
    let name = c.in-Some.name.now in
    let file = c.in-Some.file.now in
    buffer_refused (parts_after 58 c.args.rest) name file c.in-Some.size.now c.in-Some.ensures
    (elim c.then-not-is_name.branch [
      | then-not-is_name-via-then-not-is_name w ↦
          ap (λ good. good && is_file file) (sym w.if-not-is_name.ensures)
      | then-not-is_name-via-else-not-is_name+then-not-is_file w ↦
          ap (λ good. good && is_file file) (sym w.if-not-is_name.ensures)
          ∙ sym w.if-not-is_file.ensures
    ])
