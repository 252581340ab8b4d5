use Rattle.std.proofs.Common.{None, ap, ◌∙◌, sym}
use Rattle.line_words.specs.Parts.{parts_after, three_of}
use Rattle.relay_conf.specs.Cycbuff.{group_moded}
use Rattle.relay_conf.proofs.FileLines.{group_parted, group_by_parts}
use Rattle.relay_conf.proofs.cycbuff_lines.group_line.Goals as goal

pub returns-in-Some : goal.returns-in-Some
returns-in-Some c =
    let after = parts_after 58 c.args.rest in
    c.group_moded.ensures
    ∙ ap (λ two. group_parted two (three_of after)) c.in-Some.ensures
    ∙ sym (group_by_parts after)

pub returns-in-Some-three_parts : goal.returns-in-Some-three_parts
returns-in-Some-three_parts c =
    let after = parts_after 58 c.args.rest in
    let three = c.in-Some-three_parts in
    c.group_moded-in-Some-three_parts.ensures
    ∙ ap (group_moded three.name.now three.list.now) c.mode_of.ensures
    ∙ ap (group_parted None) three.ensures
    ∙ ap (λ two. group_parted two (three_of after)) c.in_default.ensures
    ∙ sym (group_by_parts after)

pub returns-in-None : goal.returns-in-None
returns-in-None c =
    let after = parts_after 58 c.args.rest in
    ap (group_parted None) c.in-None.ensures
    ∙ ap (λ two. group_parted two (three_of after)) c.in_default.ensures
    ∙ sym (group_by_parts after)
