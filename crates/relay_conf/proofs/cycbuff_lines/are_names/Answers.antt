use Rattle.std.proofs.Common.{◌∙◌, sym, ap}
use Rattle.std.specs.List.{list_all}
use Rattle.relay_conf.specs.Words.{is_name}
use Rattle.relay_conf.proofs.FileLines.{members_some}
use Rattle.relay_conf.proofs.cycbuff_lines.are_names.Goals as goal

pub returns-else-is_empty : goal.returns-else-is_empty
returns-else-is_empty c =
    c.has_names_alone.ensures
    ∙ ap (list_all is_name) (sym (members_some c.args.list.now (sym c.if-is_empty.ensures)))
