use Rattle.std.proofs.Common.{◌∙◌, ap, sym, Bool, List, ℕ}
use Rattle.std.specs.Prelude.{◌==◌}
use Rattle.std.specs.List.{list_any}
use Rattle.relay_conf.specs.Cycbuff.{Group}
use Rattle.relay_conf.specs.Places.{group_view}
use Rattle.relay_conf.specs.declared.cycbuff.GroupConf.{GroupConf}
use Rattle.relay_conf.proofs.Numbered.{any_later, any_there}
use Rattle.relay_conf.proofs.cycbuff.is_listed.Goals as goal

pub returns-then-contains : goal.returns-then-contains
returns-then-contains c =
    let has : List ℕ → Bool = λ numbers. list_any (λ other. other == c.args.number) numbers in
    any_there (λ (group : Group). has group.buffers) group_view c.args.groups.now
    c.loop-group.group-index c.group-item.result c.loop-group-test.true c.loop-group.invariant
    (sym (c.contains.ensures.value ∙ ap has c.deref.ensures.value
    ∙ ap (λ (group : GroupConf). has group.buffers.items) c.group-item.is)
    ∙ c.if-contains.true)

pub loop-group-preserved : goal.loop-group-preserved
loop-group-preserved c =
    let has : List ℕ → Bool = λ numbers. list_any (λ other. other == c.args.number) numbers in
    any_later (λ (group : Group). has group.buffers) group_view c.args.groups.now
    c.loop-group.group-index c.group-item.result c.loop-group-test.true c.loop-group.invariant
    (sym (c.contains.ensures.value ∙ ap has c.deref.ensures.value
    ∙ ap (λ (group : GroupConf). has group.buffers.items) c.group-item.is)
    ∙ c.if-contains.false)
