use Rattle.std.proofs.Common.{◌∙◌, ap₂}
use Rattle.relay_explain.specs.Choice.{choice_text}
use Rattle.relay_command.proofs.explain.choice_of.Goals as goal

pub returns-clause-text : goal.returns-clause-text
returns-clause-text c =
    c.in_ok-text.ensures
    ∙ ap₂ (choice_text c.args.config.now) c.as_bytes-newsgroups.ensures.value c.from.ensures
