use Rattle.std.proofs.Common.{◌≡◌, ◌∙◌, ap, sym, map, ◌∷◌, [], Ok}
use Rattle.std.specs.Prelude.{◌++◌}
use Rattle.std.specs.Option.{option_to_list}
use Rattle.std.proofs.lemmas.List.{map-append}
use Rattle.relay_conf.specs.Cycbuff.{GroupLine, cycbuff_line, members_of, listed_fault, group_of}
use Rattle.relay_conf.specs.Places.{group_view}
use Rattle.relay_conf.specs.declared.cycbuff.GroupConf.{GroupConf}
use Rattle.relay_conf.proofs.cycbuff.add_group_line.Goals as goal

-- the line says a group
said : (c : goal.In_ok-push)
    → Ok (GroupLine c.in-Ok-Group.name.now (members_of c.in-Ok-Group.list.now) c.in-Ok-Group.mode)
    ≡ cycbuff_line c.args.line.now
said c = rw c.in-Ok-Group.field-0-is at c.in-Ok-Group.ensures

pub returns-in_ok-push-clause-fault : goal.returns-in_ok-push-clause-fault
returns-in_ok-push-clause-fault c =
    ap (listed_fault c.args.buffers.now (map group_view c.args.groups.now.items)) (sym (said c))
    ∙ (rw c.deref.ensures.value at c.in_ok-numbers.ensures.fault)

-- the group as it is kept
abbrev kept : goal.In_ok-push → GroupConf
kept c = record {
  name = c.in_ok-copied.field-0;
  buffers = c.in_ok-numbers.numbers;
  mode = c.in-Ok-Group.mode;
}

pub returns-in_ok-push-clause-groups : goal.returns-in_ok-push-clause-groups
returns-in_ok-push-clause-groups c =
    let before = c.args.groups.now.items in
    ap (map group_view) c.in_ok-push.ensures.items
    ∙ map-append group_view before (kept c ∷ [])
    ∙ rw (c.in_ok-copied.ensures, c.in_ok-numbers.ensures.numbers)
    (ap (λ line. map group_view before ++ option_to_list (group_of c.args.buffers.now line))
    (said c))
