use Rattle.std.proofs.Common.{◌∙◌, ap, sym, true, Some}
use Rattle.clap.specs.Words.{Rule, rule_of}
use Rattle.clap.specs.declared.builder.Arg.{Arg}
use Rattle.clap.specs.declared.builder.ArgAction.TheVariants.{SetTrue}
use Rattle.relay_command.specs.WordTable.{rule_as}
use Rattle.relay_command.proofs.CommandLines.{text_rule}
use Rattle.relay_command.proofs.words.arg_of.Goals as goal

pub returns-in-Needed-clause-rule : goal.returns-in-Needed-clause-rule
returns-in-Needed-clause-rule c =
    let name = c.args.word.now.name.now in
    let needs : Rule → Rule = λ r. record r { required = true } in
    ap rule_of c.required.ensures
    ∙ ap needs (text_rule c.new.result c.help.result c.action-arg.result name _ c.new.ensures.rule
    c.help.ensures c.action-arg.ensures)
    ∙ sym (ap (rule_as name) c.in-Needed.is)

pub returns-in-Optional-clause-rule : goal.returns-in-Optional-clause-rule
returns-in-Optional-clause-rule c =
    let name = c.args.word.now.name.now in
    text_rule c.new.result c.help.result c.action-arg.result name _ c.new.ensures.rule
    c.help.ensures c.action-arg.ensures
    ∙ sym (ap (rule_as name) c.in-Optional.is)

pub returns-in-Flag-clause-rule : goal.returns-in-Flag-clause-rule
returns-in-Flag-clause-rule c =
    let name = c.args.word.now.name.now in
    let set : Rule → Rule = λ r. record r { action = Some SetTrue } in
    let named : Rule → Rule = λ r. record r { long = Some name } in
    ap rule_of c.action.ensures
    ∙ ap (λ (a : Arg). set (rule_of a)) c.long-in-Flag.ensures
    ∙ ap (λ (r : Rule). set (named r))
    (text_rule c.new.result c.help.result c.action-arg.result name _ c.new.ensures.rule
    c.help.ensures c.action-arg.ensures)
    ∙ sym (ap (rule_as name) c.in-Flag.is)
